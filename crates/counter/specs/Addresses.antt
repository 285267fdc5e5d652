-- The reference of the counter at a port of this machine.
use Rattle.std.specs.Prelude.{ℕ, [], ◌∷◌, codes}
use Rattle.cdr_core.specs.Parts.{octet_value, ushort_value}
use Rattle.cdr_core.specs.Value as value
use Rattle.cdr_core.specs.Value.{Value, no_values, values}
use Rattle.ior_core.specs.View.{tag_and_octets}
use Rattle.ior_core.specs.Writing.{encapsulation_of}

-- IIOP 9.7.2: an IIOP profile of 1.2 of the host 127.0.0.1, this port and the object key `c`, without components
abbrev pub counter_profile : ℕ → Value
counter_profile port =
    value.structure (values (octet_value 1 ∷ octet_value 2 ∷ value.string (codes "127.0.0.1") ∷ ushort_value port ∷ value.octets (99 ∷ []) ∷ value.sequence no_values ∷ []))

-- IOP 7.6.2: a reference of the type IDL:Counter:1.0, with this profile alone, whose tag is that of IIOP, 0
abbrev pub counter_reference : ℕ → Value
counter_reference port =
    value.structure (values (value.string (codes "IDL:Counter:1.0") ∷ value.sequence (values (tag_and_octets 0 (encapsulation_of (counter_profile port)) ∷ [])) ∷ []))
