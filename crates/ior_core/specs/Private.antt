-- Words for the contracts of private functions. No public contract cites them.
use Rattle.std.specs.Prelude.{ℕ, ◌<◌, ◌^◌, pos, Bool, true, false, List, [], ◌∷◌, Ok}
use Rattle.std.specs.List.{AllByRecursion}
use Rattle.std.specs.Ordering.{int_eq}
use Rattle.cdr_core.specs.declared.order.Order.{Order}
use Rattle.cdr_core.specs.Numbers.{AreOctets}
use Rattle.cdr_core.specs.Parts.{octet_value, ushort_value}
use Rattle.cdr_core.specs.Reading.{◌>>=◌, Read, value_at}
use Rattle.cdr_core.specs.Value as value
use Rattle.cdr_core.specs.Value.{Value, Values, values}
use Rattle.ior_core.specs.declared.tagged.Tagged.{Tagged}
use Rattle.ior_core.specs.Grammar.{tagged_list}

-- a minor version that has no components
abbrev pub is_0 : ℕ → Bool
is_0 minor = int_eq (pos minor) (pos 0)

-- the members that a profile of each version has
abbrev pub head_values : ℕ → ℕ → List ℕ → ℕ → List ℕ → Values
head_values major minor host port key = values (octet_value major ∷ octet_value minor ∷ value.string host ∷ ushort_value port ∷ value.octets key ∷ [])

abbrev pub head_value : ℕ → ℕ → List ℕ → ℕ → List ℕ → Value
head_value major minor host port key = value.structure (head_values major minor host port key)

-- the components after them, where the version has them
abbrev pub components_at : Bool → Order → ℕ → List ℕ → Read Values
components_at true order o octets = Ok (value.no_values, o, octets)
components_at false order o octets = value_at tagged_list order o octets >>= λ x. Ok (value.value x.0 value.no_values, x.1, x.2)

-- what the types of the code say of a tag and its octets
abbrev pub IsOfCode : Tagged → Type 0
IsOfCode one = (one.tag < 2 ^ 32) × AreOctets one.octets.items

abbrev pub AreOfCode : List Tagged → Type 0
AreOfCode all = AllByRecursion IsOfCode all
