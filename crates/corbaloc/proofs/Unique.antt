-- Each part of a location is spelled by one part of the text.
use Rattle.std.proofs.Common.{◌≡◌, ℕ, List, [], ◌∷◌, ◌++◌, inl, inr, sym, ◌∙◌, subst, true, IsTrue, arith}
use Rattle.std.specs.List.{list_all}
use Rattle.std.proofs.lemmas.Bool.{false≢true}
use Rattle.corbaloc.specs.declared.address.Address.{Address}
use Rattle.corbaloc.specs.Grammar.{is_of_name, is_plain, IsCut, IsFree, IsHostOf, SpellsAddress, SpellsAddresses, SpellsEnd, SpellsHost, SpellsKey, SpellsProtocol, SpellsScheme, SpellsVersion, TakesOctet}
use Rattle.corbaloc.proofs.Cuts.{cut_once, free_not_cut, until_once}

pub scheme_once : (text a b : List ℕ) → SpellsScheme text a → SpellsScheme text b → a ≡ b
scheme_once text a b x y = (cut_once 58 text x.0 a y.0 b x.1 y.1).1

pub protocol_once : (text a b : List ℕ) → SpellsProtocol text a → SpellsProtocol text b → a ≡ b
protocol_once text a b x y = (cut_once 58 text x.0 a y.0 b x.1 y.1).1

pub end_once : (text a b c d : List ℕ) → SpellsEnd text a b → SpellsEnd text c d → (a ≡ c) × (b ≡ d)
end_once text a b c d (inl x) (inl y) = (x.1 ∙ sym y.1, x.2 ∙ sym y.2)
end_once text a b c d (inl x) (inr y) = absurd (free_not_cut 47 text c d x.0 y)
end_once text a b c d (inr x) (inl y) = absurd (free_not_cut 47 text a b y.0 x)
end_once text a b c d (inr x) (inr y) = cut_once 47 text a b c d x y

pub version_once : (text : List ℕ) (m n : ℕ) (a b : List ℕ) → SpellsVersion text m a → SpellsVersion text n b → a ≡ b
version_once text m n a b (inl x) (inl y) = x.2 ∙ sym y.2
version_once text m n a b (inl x) (inr y) = absurd (free_not_cut 64 text y.0 b x.0 y.1)
version_once text m n a b (inr x) (inl y) = absurd (free_not_cut 64 text x.0 a y.0 x.1)
version_once text m n a b (inr x) (inr y) = (cut_once 64 text x.0 a y.0 b x.1 y.1).1

-- no name begins with a bracket
no_bracket : (host behind inside : List ℕ) → IsHostOf is_of_name host → host ++ behind ≡ 91 ∷ inside → ⊥
no_bracket [] behind inside h e = absurd (omega (arith, h.0))
no_bracket (x ∷ host) behind inside h e = starts x host h.1 cc
  where
    starts : (x : ℕ) (host : List ℕ) → IsTrue (list_all is_of_name (x ∷ host)) → x ≡ 91 → ⊥
    starts x host all is = absurd (false≢true (subst (λ (y : ℕ). list_all is_of_name (y ∷ host) ≡ true) is all))

pub host_once : (text a b c d : List ℕ) → SpellsHost text a b → SpellsHost text c d → b ≡ d
host_once text a b c d (inl x) (inl y) = (until_once 58 text a b c d x.0 y.0).1
host_once text a b c d (inl x) (inr y) = absurd (no_bracket a b y.0 x.1 (sym x.0.0 ∙ y.1))
host_once text a b c d (inr x) (inl y) = absurd (no_bracket c d x.0 y.1 (sym y.0.0 ∙ x.1))
host_once text a b c d (inr x) (inr y) =
    let same : x.0 ≡ y.0 = insides (sym x.1 ∙ y.1) in
    (cut_once 93 y.0 a b c d (subst (λ (t : List ℕ). IsCut 93 t a b) same x.2) y.2).1
  where
    insides : {i j : List ℕ} → 91 ∷ i ≡ 91 ∷ j → i ≡ j
    insides e = cc

no_plain_percent : (octet : ℕ) → IsTrue (is_plain octet) → octet ≡ 37 → ⊥
no_plain_percent octet plain is = absurd (false≢true (subst (λ (x : ℕ). is_plain x ≡ true) is plain))

pub octet_once : (text : List ℕ) (m n : ℕ) (a b : List ℕ) → TakesOctet text m a → TakesOctet text n b → a ≡ b
octet_once text m n a b (inl x) (inl y) = tails (sym x.0 ∙ y.0)
  where
    tails : {m n : ℕ} {a b : List ℕ} → m ∷ a ≡ n ∷ b → a ≡ b
    tails e = cc
octet_once text m n a b (inl x) (inr y) = absurd (no_plain_percent m x.1 (heads (sym x.0 ∙ y.2)))
  where
    heads : {m n : ℕ} {a b : List ℕ} → m ∷ a ≡ n ∷ b → m ≡ n
    heads e = cc
octet_once text m n a b (inr x) (inl y) = absurd (no_plain_percent n y.1 (heads (sym y.0 ∙ x.2)))
  where
    heads : {m n : ℕ} {a b : List ℕ} → m ∷ a ≡ n ∷ b → m ≡ n
    heads e = cc
octet_once text m n a b (inr x) (inr y) = thirds (sym x.2 ∙ y.2)
  where
    thirds : {h i j k : ℕ} {a b : List ℕ} → 37 ∷ h ∷ i ∷ a ≡ 37 ∷ j ∷ k ∷ b → a ≡ b
    thirds e = cc

-- The steps over the addresses of a text: each is spelled by the part before a comma ..
pub one_more : (text first rest : List ℕ) (one : Address) (more : List Address) → IsCut 44 text first rest → SpellsAddress first one → SpellsAddresses rest more → SpellsAddresses text (one ∷ more)
one_more text first rest one [] cut x h = absurd h
one_more text first rest one (two ∷ more) cut x h = (first, rest, cut, x, h)

-- .. the addresses of a text with a comma are those of the parts round it ..
pub parts_of : (text first rest : List ℕ) (all : List Address) → IsCut 44 text first rest → SpellsAddresses text all → ((one : Address) × SpellsAddress first one) × ((more : List Address) × SpellsAddresses rest more)
parts_of text first rest [] cut h = absurd h
parts_of text first rest (one ∷ []) cut h = absurd (free_not_cut 44 text first rest h.0 cut)
parts_of text first rest (one ∷ two ∷ more) cut h =
    let same = cut_once 44 text h.0 h.1 first rest h.2 cut in
    ((one, subst (λ (t : List ℕ). SpellsAddress t one) same.0 h.3), (two ∷ more, subst (λ (t : List ℕ). SpellsAddresses t (two ∷ more)) same.1 h.4))

-- .. and those of a text without one are the one that it spells.
pub last_of : (text : List ℕ) (all : List Address) → IsFree 44 text → SpellsAddresses text all → (one : Address) × SpellsAddress text one
last_of text [] free h = absurd h
last_of text (one ∷ []) free h = (one, h.1)
last_of text (one ∷ two ∷ more) free h = absurd (free_not_cut 44 text h.0 h.1 free h.2)

-- what is left of a key behind its first octet
pub key_rest : (text rest : List ℕ) (octet : ℕ) (key : List ℕ) → TakesOctet text octet rest → SpellsKey text key → (more : List ℕ) × SpellsKey rest more
key_rest text rest octet [] takes h = absurd (taken takes h)
  where
    taken : TakesOctet text octet rest → text ≡ [] → ⊥
    taken (inl x) h = clash (sym x.0 ∙ h)
      where
        clash : {m : ℕ} {a : List ℕ} → m ∷ a ≡ [] → ⊥
        clash e = absurd cc
    taken (inr x) h = clash (sym x.2 ∙ h)
      where
        clash : {m : ℕ} {a : List ℕ} → m ∷ a ≡ [] → ⊥
        clash e = absurd cc
key_rest text rest octet (other ∷ key) takes h = (key, subst (λ (t : List ℕ). SpellsKey t key) (octet_once text other octet h.0 rest h.1 takes) h.2)
