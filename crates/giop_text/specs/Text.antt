-- Octets in lines of text.
use Rattle.std.specs.Prelude.{ℕ, Bool, not, nat_le, ◌==◌, ◌&&◌, List, [], ◌∷◌, ◌++◌, flat_map, codes, decimal, if◌then◌else◌}
use Rattle.std.specs.List.{concat, list_any}
use Rattle.hex.specs.Hex.{encode_lower}

-- the octets of ASCII from the space on that print, but the backslash
abbrev pub is_plain : ℕ → Bool
is_plain octet = (nat_le 32 octet && nat_le octet 126) && not (octet == 92)

-- an octet as it is, or as a backslash, an x and two digits
abbrev pub octet_text : ℕ → List ℕ
octet_text octet = if is_plain octet then octet ∷ [] else codes "\\x" ++ encode_lower (octet ∷ [])

abbrev pub text_of : List ℕ → List ℕ
text_of octets = flat_map octet_text octets

-- hexadecimal digits in lower case, or a dash where there are none
abbrev pub digits_of : List ℕ → List ℕ
digits_of [] = codes "-"
digits_of (octet ∷ octets) = encode_lower (octet ∷ octets)

-- whether a host has colons, as an address of IPv6 has
abbrev pub has_colons : List ℕ → Bool
has_colons host = list_any (λ octet. octet == 58) host

-- an address: its host, between brackets where it has colons, and its port
abbrev pub host_port : List ℕ → ℕ → List ℕ
host_port host port = if has_colons host
    then concat (codes "[" ∷ text_of host ∷ codes "]:" ∷ decimal port ∷ [])
    else concat (text_of host ∷ codes ":" ∷ decimal port ∷ [])
