-- Counts of types and of values.
use Rattle.std.proofs.Common.{◌≡◌, ◌≢◌, ◌↔◌, IsTrue, ltb, lt-ltb, List, [], ◌∷◌, length, suc, refl, ap, arith}
use Rattle.cdr_core.specs.Form as form
use Rattle.cdr_core.specs.View.{forms_of, values_of}
use Rattle.cdr_core.specs.Fitting.{FitsMembers}
use Rattle.cdr_core.specs.declared.types.Ty.{Ty}
use Rattle.cdr_core.specs.declared.values.Val.{Val}

pub members_is : (ts : List Ty) → (IsTrue (ltb 0 (length ts)) ↔ (forms_of ts ≢ form.no_forms))
members_is [] = ((λ e. absurd cc), (λ ne. absurd (ne refl)))
members_is (t ∷ ts) = ((λ e same. absurd cc), (λ ne. lt-ltb _ _ (omega arith)))

pub members_count : (ts : List Ty) (vs : List Val) → FitsMembers (forms_of ts) (values_of vs) → length ts ≡ length vs
members_count [] [] h = refl
members_count [] (v ∷ vs) h = absurd h
members_count (t ∷ ts) [] h = absurd h
members_count (t ∷ ts) (v ∷ vs) h = ap suc (members_count ts vs h.1)
