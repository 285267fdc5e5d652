-- The lines that show a reference.
use Rattle.std.specs.Prelude.{ℕ, suc, pos, ◌==◌, List, [], ◌∷◌, ◌++◌, codes, decimal, Result, Ok, Err, if◌then◌else◌}
use Rattle.std.specs.List.{concat}
use Rattle.cdr_core.specs.declared.fault.Fault.{Fault}
use Rattle.cdr_core.specs.Value as value
use Rattle.cdr_core.specs.Value.{Value, Values}
use Rattle.ior_core.specs.declared.reference.Ior.{Ior}
use Rattle.ior_core.specs.declared.tagged.Tagged.{Tagged}
use Rattle.ior_core.specs.Profiles.{body_of, has_major_1, member}
use Rattle.giop_text.specs.Text.{digits_of, text_of}

-- the octets of a string or of a sequence of octets
abbrev pub octets_in : Value → List ℕ
octets_in (value.string octets) = octets
octets_in (value.octets octets) = octets
octets_in _ = []

-- a number that is not negative
abbrev pub number_in : Value → ℕ
number_in (value.number kind (pos n)) = n
number_in _ = 0

-- a component is a structure of a tag and octets
abbrev pub component_line : Value → List ℕ
component_line v = concat (codes "  component " ∷ decimal (number_in (member 0 v)) ∷ codes " " ∷ digits_of (octets_in (member 1 v)) ∷ codes "\n" ∷ [])

abbrev pub component_lines : Values → List ℕ
component_lines value.no_values = []
component_lines (value.value v vs) = component_line v ++ component_lines vs

abbrev pub components_in : Value → Values
components_in (value.sequence vs) = vs
components_in _ = value.no_values

-- a profile's head is a structure of a major and a minor version, a host, a port and a key
abbrev pub iiop_line : ℕ → Value → List ℕ
iiop_line place v = concat (codes "profile " ∷ decimal place ∷ codes " iiop 1." ∷ decimal (number_in (member 1 v))
    ∷ codes " host " ∷ text_of (octets_in (member 2 v)) ∷ codes " port " ∷ decimal (number_in (member 3 v))
    ∷ codes " key " ∷ digits_of (octets_in (member 4 v)) ∷ codes "\n" ∷ [])

abbrev pub bad_line : ℕ → List ℕ
bad_line place = concat (codes "profile " ∷ decimal place ∷ codes " iiop bad\n" ∷ [])

-- the lines of an IIOP profile: of major version 1, with its components, or bad
abbrev pub iiop_lines : ℕ → Result Value Fault → List ℕ
iiop_lines place (Ok p) = if has_major_1 p then iiop_line place p ++ component_lines (components_in (member 5 p)) else bad_line place
iiop_lines place (Err f) = bad_line place

abbrev pub tag_line : ℕ → ℕ → List ℕ → List ℕ
tag_line place tag octets = concat (codes "profile " ∷ decimal place ∷ codes " tag " ∷ decimal tag ∷ codes " " ∷ digits_of octets ∷ codes "\n" ∷ [])

-- tag 0 is TAG_INTERNET_IOP
abbrev pub profile_lines : ℕ → Tagged → List ℕ
profile_lines place p = if p.tag == 0 then iiop_lines place (body_of p.octets.items) else tag_line place p.tag p.octets.items

-- the lines of profiles, the first of which stands at a place
abbrev pub lines_from : ℕ → List Tagged → List ℕ
lines_from place [] = []
lines_from place (p ∷ ps) = profile_lines place p ++ lines_from (suc place) ps

abbrev pub lines_of : List ℕ → List Tagged → List ℕ
lines_of [] [] = codes "nil\n"
lines_of type_id profiles = concat (codes "type " ∷ text_of type_id ∷ codes "\n" ∷ []) ++ lines_from 0 profiles

-- the nil reference has an empty type and no profiles
abbrev pub reference_lines : Ior → List ℕ
reference_lines ior = lines_of ior.type_id.items ior.profiles.items
