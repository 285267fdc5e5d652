-- The reference that a location stands for: an IIOP profile for each address.
use Rattle.std.specs.Prelude.{ℕ, List, [], ◌∷◌}
use Rattle.cdr_core.specs.Parts.{octet_value, ushort_value}
use Rattle.cdr_core.specs.Value as value
use Rattle.cdr_core.specs.Value.{Value, values}
use Rattle.ior_core.specs.Keys.{tag_internet_iop}
use Rattle.ior_core.specs.Profiles.{components_of}
use Rattle.ior_core.specs.Writing.{encapsulation_of}
use Rattle.corbaloc.specs.declared.address.Address.{Address}

-- the profile's members: the version, the host, the port and the key, and no components
abbrev pub body : List ℕ → Address → Value
body key one =
    value.structure (values (octet_value 1 ∷ octet_value one.minor ∷ value.string one.host.items ∷ ushort_value one.port ∷ value.octets key ∷ components_of one.minor []))

-- the tag of an IIOP profile, and its octets
abbrev pub profile : List ℕ → Address → ℕ × List ℕ
profile key one = (tag_internet_iop, encapsulation_of (body key one))
