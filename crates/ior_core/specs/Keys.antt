-- Object keys in the IIOP profiles of references.
use Rattle.std.specs.Prelude.{ℕ, ◌==◌, List, Option, Some, None, option_map, slice_get, if◌then◌else◌}
use Rattle.ior_core.specs.declared.tagged.Tagged.{Tagged}
use Rattle.ior_core.specs.Profiles.{body_of, key_of}

-- IOP 7.6.2: tag 0 is TAG_INTERNET_IOP
abbrev pub tag_internet_iop : ℕ
tag_internet_iop = 0

-- the key in a tag and its octets, where the tag is that of IIOP profiles and the octets are a profile of IIOP 1
abbrev pub profile_key : ℕ × List ℕ → Option (List ℕ)
profile_key x = if x.0 == tag_internet_iop then key_of (body_of x.1) else None

-- the key in a profile, where there is one
abbrev pub key_in : Option (ℕ × List ℕ) → Option (List ℕ)
key_in (Some x) = profile_key x
key_in None = None

abbrev pub tag_and_octets_of : Tagged → ℕ × List ℕ
tag_and_octets_of one = (one.tag, one.octets.items)

-- the key in the profile of an index, counted from 0
abbrev pub key_at : List Tagged → ℕ → Option (List ℕ)
key_at all index = key_in (option_map tag_and_octets_of (slice_get all index))
