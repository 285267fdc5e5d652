-- What naming the repository ids of an object does.
use Rattle.std.specs.Prelude.{◌≡◌, ◌≢◌, ◌⊎◌, ℕ, List, [], ◌∷◌, ◌++◌, Some, Result, Ok, Err}
use Rattle.std.proofs.Common.{Vec, Global}
use Rattle.ft_objects.specs.Filling.{AreClean, AreNoOperations, changed, texts, with_identity}
use Rattle.lemonrudder.specs.declared.cataloguing.Cataloguing.{Cataloguing}
use Rattle.lemonrudder.specs.declared.refusal.Refusal.{Refusal}
use Rattle.lemonrudder.specs.declared.refusal.Refusal.TheVariants as refusal
use Rattle.lemonrudder.specs.Fills.{AddsTo, Filling, filling}

-- ids with a NUL after each
abbrev pub with_nuls : List (List ℕ) → List ℕ
with_nuls [] = []
with_nuls (id ∷ ids) = id ++ 0 ∷ with_nuls ids

-- the octets of some ids, of which none has a NUL
pub record AreIdsOf (octets : List ℕ) (ids : List (List ℕ)) : Type 0 where
  pub some : ids ≢ []
  pub clean : AreClean ids
  pub spelled : octets ≡ with_nuls ids

-- there are no octets, or the last is no NUL
abbrev pub EndsInNoNul : List ℕ → Type 0
EndsInNoNul octets = (octets ≡ []) ⊎ ((front : List ℕ) × (last : ℕ) × (octets ≡ front ++ last ∷ []) × (last ≢ 0))

-- octets are read as ids; or they end in no NUL, or memory is short
abbrev pub AreIds : List ℕ → Result (Vec (Vec ℕ Global) Global) Refusal → Type 0
AreIds octets (Ok ids) = AreIdsOf octets (texts ids)
AreIds octets (Err refusal.Text) = EndsInNoNul octets
AreIds octets (Err refusal.Memory) = octets ≢ []
AreIds octets (Err e) = ⊥

-- with these repository ids, of the object under the key
abbrev pub with_ids : List ℕ → List (List ℕ) → Filling → Filling
with_ids key ids x = record x { offer = with_identity key x.offer; ids = changed key (Some ids) x.ids }

-- none are named, and nothing has changed: the octets end in no NUL, or memory is short
abbrev pub NamesNone : List ℕ → Filling → Filling → Result ℕ Refusal → Type 0
NamesNone octets old new r = (new ≡ old) × (((r ≡ Err refusal.Text) × EndsInNoNul octets) ⊎ ((r ≡ Err refusal.Memory) × (octets ≢ [])))

-- an object names repository ids, and has the operations that ask for them
abbrev pub OnRepositoryIds : (key octets : List ℕ) → Cataloguing → Cataloguing → Result ℕ Refusal → Type 0
OnRepositoryIds key octets s t r =
    NamesNone octets (filling s) (filling t) r
    ⊎ ((ids : List (List ℕ)) × AreIdsOf octets ids × AddsTo key (AreClean ids) (AreNoOperations ((filling s).offer.interface key)) (with_ids key ids (filling s)) (filling s) (filling t) r)
