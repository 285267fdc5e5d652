-- What keeps a text from being a protocol, a host or a port.
use Rattle.std.proofs.Common.{◌≡◌, ◌≢◌, ℕ, ◌<◌, List, [], ◌∷◌, length, inl, inr, refl, ap, sym, ◌∙◌, arith}
use Rattle.std.specs.Prelude.{codes}
use Rattle.corbaloc.specs.declared.error.LocationError.TheVariants.{UnknownProtocol}
use Rattle.corbaloc.specs.Faults.{IsProtocolFault}
use Rattle.corbaloc.specs.Grammar.{is_of_name, IsCut, IsFree, IsHostOf, IsUntil, SpellsHost, SpellsPort}
use Rattle.corbaloc.proofs.Cuts.{cut_once, free_not_cut}

pub no_protocol : (at : ℕ) (text : List ℕ) → IsFree 58 text → IsProtocolFault at text (UnknownProtocol at)
no_protocol at text free = inr (λ protocol rest cut. absurd (free_not_cut 58 text protocol rest free cut), refl)

pub other_protocol : (at : ℕ) (text protocol rest : List ℕ) → IsCut 58 text protocol rest → 0 < length protocol → protocol ≢ codes "iiop" → protocol ≢ codes "rir" → IsProtocolFault at text (UnknownProtocol at)
other_protocol at text protocol rest cut some iiop rir =
    inr (λ p r other. neither p (cut_once 58 text p r protocol rest other cut).0, refl)
  where
    neither : (p : List ℕ) → p ≡ protocol → (p ≢ codes "iiop") × (p ≢ []) × (p ≢ codes "rir")
    neither p same =
        (λ is. iiop (sym same ∙ is), λ is. absurd (omega (arith, some, ap length (sym same ∙ is))), λ is. rir (sym same ∙ is))

pub no_host : (text : List ℕ) → ((rest : List ℕ) → text ≡ 91 ∷ rest → ⊥) → ((host behind : List ℕ) → IsUntil 58 text host behind → IsHostOf is_of_name host → ⊥) → (host behind : List ℕ) → SpellsHost text host behind → ⊥
no_host text no_bracket no_name host behind (inl h) = no_name host behind h.0 h.1
no_host text no_bracket no_name host behind (inr h) = no_bracket h.0 h.1

pub no_port : (text : List ℕ) → 0 < length text → ((rest : List ℕ) → text ≡ 58 ∷ rest → ⊥) → (port : ℕ) → SpellsPort text port → ⊥
no_port text some no_colon port (inl h) = absurd (omega (arith, some, ap length h.0))
no_port text some no_colon port (inr h) = no_colon h.0 h.1
