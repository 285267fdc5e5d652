-- The object key that a target names.
use Rattle.std.specs.Prelude.{ℕ, List, Option, Some, slice_get}
use Rattle.ior_core.specs.Keys.{key_in, profile_key}
use Rattle.giop_core.specs.Content as content
use Rattle.giop_core.specs.Content.{Addressed}

-- The key itself, that of an IIOP profile, or that of the chosen profile of a reference. There is none where the profile
-- is of another tag or doesn't read (own rule).
abbrev pub key_of_addressed : Addressed → Option (List ℕ)
key_of_addressed (content.by_key key) = Some key
key_of_addressed (content.by_profile tag octets) = profile_key (tag, octets)
key_of_addressed (content.by_reference index type_id profiles) = key_in (slice_get profiles index)
