-- The values that references, tagged profiles and components of the code stand for.
use Rattle.std.specs.Prelude.{ℕ, List, [], ◌∷◌, map}
use Rattle.std.specs.Borrow.{Bor}
use Rattle.cdr_core.specs.Parts.{ulong_value}
use Rattle.cdr_core.specs.Value as value
use Rattle.cdr_core.specs.Value.{Value, Values, values}
use Rattle.ior_core.specs.declared.reference.Ior.{Ior}
use Rattle.ior_core.specs.declared.tagged.Tagged.{Tagged}

abbrev pub tag_and_octets : ℕ → List ℕ → Value
tag_and_octets tag octets = value.structure (values (ulong_value tag ∷ value.octets octets ∷ []))

abbrev pub tagged_value : Tagged → Value
tagged_value t = tag_and_octets t.tag t.octets.items

-- octets that are lent, with their tag
abbrev pub lent_value : ℕ × Bor (List ℕ) → Value
lent_value x = tag_and_octets x.0 x.1.now

abbrev pub tagged_values : List Tagged → Values
tagged_values all = values (map tagged_value all)

abbrev pub list_value : List Tagged → Value
list_value all = value.sequence (tagged_values all)

abbrev pub ior_value : Ior → Value
ior_value ior = value.structure (values (value.string ior.type_id.items ∷ list_value ior.profiles.items ∷ []))
