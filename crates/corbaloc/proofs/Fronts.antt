-- The steps of loops over a text: what was read so far, and what follows it.
use Rattle.std.proofs.Common.{◌≡◌, ℕ, List, [], ◌∷◌, ◌++◌, length, refl, sym, ◌∙◌, subst}
use Rattle.std.proofs.lemmas.List.{nil_from_length}
use Rattle.corbaloc.specs.declared.address.Address.{Address}
use Rattle.corbaloc.specs.Faults.{SpellsFront, SpellsOctets}
use Rattle.corbaloc.specs.Grammar.{IsCut, IsFree, SpellsAddress, SpellsAddresses, SpellsKey, TakesOctet}
use Rattle.corbaloc.proofs.Unique.{one_more}

front_push : (text left first rest : List ℕ) (one : Address) (all : List Address) → IsCut 44 left first rest → SpellsAddress first one → SpellsFront text all left → SpellsFront text (all ++ one ∷ []) rest
front_push text left first rest one [] cut x same = (first, rest, (same ∙ cut.0, cut.1), x, refl)
front_push text left first rest one (a ∷ all) cut x h =
    (h.0, h.1, h.2, h.3, front_push h.1 left first rest one all cut x h.4)

front_end : (text left : List ℕ) (one : Address) (all : List Address) → IsFree 44 left → SpellsAddress left one → SpellsFront text all left → SpellsAddresses text (all ++ one ∷ [])
front_end text left one [] free x same =
    (subst (IsFree 44) (sym same) free, subst (λ (t : List ℕ). SpellsAddress t one) (sym same) x)
front_end text left one (a ∷ all) free x h =
    one_more text h.0 h.1 a (all ++ one ∷ []) h.2 h.3 (front_end h.1 left one all free x h.4)

-- an address and the comma behind it
pub address_step : (text left first rest : List ℕ) (one : Address) (all new : List Address) → new ≡ all ++ one ∷ [] → IsCut 44 left first rest → SpellsAddress first one → SpellsFront text all left → SpellsFront text new rest
address_step text left first rest one all new is cut x so_far = rw is (front_push text left first rest one all cut x so_far)

-- the last address
pub address_end : (text left : List ℕ) (one : Address) (all new : List Address) → new ≡ all ++ one ∷ [] → IsFree 44 left → SpellsAddress left one → SpellsFront text all left → SpellsAddresses text new
address_end text left one all new is free x so_far = rw is (front_end text left one all free x so_far)

octet_push : (text left rest : List ℕ) (octet : ℕ) (key : List ℕ) → TakesOctet left octet rest → SpellsOctets text key left → SpellsOctets text (key ++ octet ∷ []) rest
octet_push text left rest octet [] takes same = (rest, subst (λ (t : List ℕ). TakesOctet t octet rest) (sym same) takes, refl)
octet_push text left rest octet (a ∷ key) takes h = (h.0, h.1, octet_push h.0 left rest octet key takes h.2)

-- an octet of a key
pub octet_step : (text left rest : List ℕ) (octet : ℕ) (key new : List ℕ) → new ≡ key ++ octet ∷ [] → TakesOctet left octet rest → SpellsOctets text key left → SpellsOctets text new rest
octet_step text left rest octet key new is takes so_far = rw is (octet_push text left rest octet key takes so_far)

-- the end of a key
pub key_end : (text left key : List ℕ) → length left ≡ 0 → SpellsOctets text key left → SpellsKey text key
key_end text left [] none same = same ∙ nil_from_length left none
key_end text left (a ∷ key) none h = (h.0, h.1, key_end h.0 left key none h.2)
