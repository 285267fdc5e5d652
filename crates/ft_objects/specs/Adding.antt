-- Words of private functions: why nothing is put into a map, or added to an object, and the longer of two fronts of a key. Nothing public rests on them.
use Rattle.std.specs.Prelude.{◌≡◌, ◌&&◌, ℕ, Bool, true, false, if◌then◌else◌, Option, Some, None, IsSome, List, length, nat_eq, nat_lt}
use Rattle.std.specs.List.{starts_with}
use Rattle.ft_objects.specs.Filling.{is_a_name, non_existent_name}
use Rattle.ft_objects.specs.declared.error.InterfacesError.{InterfacesError}
use Rattle.ft_objects.specs.declared.error.InterfacesError.TheVariants.{RawObject, Taken, Memory}

-- neither of the two is there
abbrev pub AreAbsent : {X : Type 0} → (List ℕ → Option X) → Type 0
AreAbsent f = (f is_a_name ≡ None) × (f non_existent_name ≡ None)

-- why nothing is added to an object
abbrev pub IsWhyNotHere : Bool → Type 0 → InterfacesError → Type 0
IsWhyNotHere raw Free RawObject = raw ≡ true
IsWhyNotHere raw Free Taken = (raw ≡ false) × (¬ Free)
IsWhyNotHere raw Free Memory = (raw ≡ false) × Free
IsWhyNotHere raw Free _ = ⊥

-- why nothing is put into a map, where this is under the key
abbrev pub IsWhyNotPut : {X : Type 0} → Option X → InterfacesError → Type 0
IsWhyNotPut old Taken = IsSome old
IsWhyNotPut old Memory = old ≡ None
IsWhyNotPut old _ = ⊥

-- the longer of two fronts of the key: the one so far, if there is one, and this key, if it is one
abbrev pub longer_front : List ℕ → Option (List ℕ) → List ℕ → Option (List ℕ)
longer_front key None own = if starts_with nat_eq key own then Some own else None
longer_front key (Some front) own = if nat_lt (length front) (length own) && starts_with nat_eq key own then Some own else Some front
