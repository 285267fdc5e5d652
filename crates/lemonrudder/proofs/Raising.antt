-- The types of an operation, and of an exception that it declares, are valid.
use Rattle.std.proofs.Common.{◌≡◌, ℕ, Bool, true, false, List, [], ◌∷◌, Option, Some, None, option_map, bytes_eq, if◌then◌else◌, ap, subst}
use Rattle.std.proofs.lemmas.Option.{none-some}
use Rattle.std.specs.List.{AllByRecursion}
use Rattle.cdr_core.specs.Fitting.{AreValid}
use Rattle.cdr_core.specs.Form.{Forms}
use Rattle.ft_objects.specs.Interfaces.{AreValidTypes, Interface, IsValidInterface, Types, checked_operation, no_object, no_operation, operation, raw_operation}
use Rattle.ft_log.specs.declared.system_exception.SystemName.{SystemName}
use Rattle.lemonrudder.specs.Outcomes.{asked_as, member_types, members_in, members_of, result_types, types_in}

chosen : (b : Bool) (x ts : Forms) (o : Option Forms) → AreValid x → (o ≡ Some ts → AreValid ts) → (if b then Some x else o) ≡ Some ts → AreValid ts
chosen true x ts o valid later is = let same : x ≡ ts = cc in subst AreValid same valid
chosen false x ts o valid later is = later is

pub members-valid : (id : List ℕ) (rs : List (List ℕ × Forms)) (ts : Forms) → AllByRecursion (λ r. AreValid r.1) rs → members_in id rs ≡ Some ts → AreValid ts
members-valid id [] ts valid is = absurd (none-some ts is)
members-valid id (x ∷ xs) ts valid is = chosen (bytes_eq x.0 id) x.1 ts (members_in id xs) valid.0 (λ later. members-valid id xs ts valid.1 later) is

-- the types of a valid operation are
pub typed-valid : (i : Interface) (t : Types) → types_in i ≡ Some t → IsValidInterface i → AreValidTypes t
typed-valid no_object t is valid = absurd (none-some t is)
typed-valid no_operation t is valid = absurd (none-some t is)
typed-valid (operation u) t is valid = let same : u ≡ t = cc in subst AreValidTypes same valid
typed-valid (checked_operation u) t is valid = let same : u ≡ t = cc in subst AreValidTypes same valid
typed-valid raw_operation t is valid = absurd (none-some t is)

-- what would be refused is raw, which is valid
pub asked-valid : (o : Option SystemName) (i : Interface) → IsValidInterface i → IsValidInterface (asked_as o i)
asked-valid None i valid = valid
asked-valid (Some name) i valid = tt

pub none-typed : (i : Interface) → types_in i ≡ None → result_types i ≡ None
none-typed i none = ap (option_map (λ (t : Types). t.results)) none

pub none-raised : (id : List ℕ) (i : Interface) → types_in i ≡ None → member_types id i ≡ None
none-raised id i none = ap (members_of id) none
