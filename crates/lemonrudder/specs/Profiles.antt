-- What is reported of the profiles of a reference.
use Rattle.std.specs.Prelude.{◌≡◌, ◌≢◌, ℕ, ◌==◌, if◌then◌else◌, min, List, length, slice_get, option_map, Option, Some, None, Result, Ok, Err, ◌⊎◌}
use Rattle.std.specs.Option.{option_and_then}
use Rattle.ior_core.specs.Keys.{tag_and_octets_of, tag_internet_iop}
use Rattle.ior_core.specs.Profiles.{ProfileMayRunOut, ReadsProfile, body_of}
use Rattle.ior_core.specs.declared.error.IorError.{IorError}
use Rattle.ior_core.specs.declared.error.IorError.TheVariants.{Memory}
use Rattle.ior_core.specs.declared.profile.IiopProfile.{IiopProfile}
use Rattle.ior_core.specs.declared.tagged.Tagged.{Tagged}
use Rattle.lemonrudder.specs.declared.referring.ProfileHead.{ProfileHead}
use Rattle.lemonrudder.specs.declared.referring.Referring.{Referring}
use Rattle.lemonrudder.specs.declared.refusal.Refusal.{Refusal}
use Rattle.lemonrudder.specs.declared.refusal.Refusal.TheVariants as refusal
use Rattle.lemonrudder.specs.Copies.{Copies}
use Rattle.lemonrudder.specs.Items.{CopiesItem}
use Rattle.lemonrudder.specs.Layouts.{laid, octets_of_profile}

-- the profile of an index, if there is one
abbrev pub profile_at : ℕ → Referring → Option Tagged
profile_at index s = slice_get s.ior.profiles.items index

-- a profile is read as one of IIOP; or it is no valid one, of another tag or with a fault; or memory is short where reading takes some
abbrev pub IsSeen : Tagged → Result (Option IiopProfile) Refusal → Type 0
IsSeen p (Ok (Some q)) = (p.tag ≡ tag_internet_iop) × ReadsProfile (body_of p.octets.items) (Ok q)
IsSeen p (Ok None) = (p.tag ≢ tag_internet_iop) ⊎ ((e : IorError) × (e ≢ Memory) × ReadsProfile (body_of p.octets.items) (Err e))
IsSeen p (Err e) = (e ≡ refusal.Memory) × (p.tag ≡ tag_internet_iop) × ProfileMayRunOut p.octets.items

-- the profile of an index is read so, if there is one
abbrev pub IsSeenAt : Option Tagged → Result (Option IiopProfile) Refusal → Type 0
IsSeenAt None seen = seen ≡ Err refusal.None
IsSeenAt (Some p) seen = IsSeen p seen

-- what is reported of a profile; what only IIOP has is 0 where it is none
abbrev pub head_of : Tagged → Option IiopProfile → ProfileHead
head_of p None = record { data_size = length p.octets.items; host_size = 0; key_size = 0; tag = p.tag; is_iiop = 0; minor = 0; port = 0; components = 0; reserved = 0 }
head_of p (Some q) = record {
  data_size = length p.octets.items;
  host_size = length q.host.items;
  key_size = length q.object_key.items;
  tag = p.tag;
  is_iiop = 1;
  minor = q.minor;
  port = q.port;
  components = min (length q.components.items) 4294967295;
  reserved = 0;
}

-- what is reported by what a profile is seen as, as much of the struct as the room has; or why nothing is, and the room is as it was
abbrev pub Tells : Option Tagged → Result (Option IiopProfile) Refusal → (room new : List ℕ) → Result ℕ Refusal → Type 0
Tells (Some p) (Ok q) room new r = (r ≡ Ok 0) × (new ≡ laid (octets_of_profile (head_of p q)) room)
Tells None (Ok q) room new r = ⊥
Tells profile (Err e) room new r = (r ≡ Err e) × (new ≡ room)

-- what is reported of the profile of an index
abbrev pub OnProfile : ℕ → (room new : List ℕ) → Referring → Referring → Result ℕ Refusal → Type 0
OnProfile index room new s t r = (t ≡ s) × (seen : Result (Option IiopProfile) Refusal) × IsSeenAt (profile_at index s) seen × Tells (profile_at index s) seen room new r

-- a part of a profile of IIOP, by its number in the header
abbrev pub part_in : ℕ → IiopProfile → Option (List ℕ)
part_in part q = if part == 1 then Some q.host.items else (if part == 2 then Some q.object_key.items else None)

-- a tagged component of a profile of IIOP, by its index
abbrev pub component_in : ℕ → IiopProfile → Option (ℕ × List ℕ)
component_in index q = option_map tag_and_octets_of (slice_get q.components.items index)

-- a part is copied by what a profile is seen as
abbrev pub CopiesPart : ℕ → Result (Option IiopProfile) Refusal → (room new : List ℕ) → Result ℕ Refusal → Type 0
CopiesPart part (Ok q) room new r = Copies (option_and_then (part_in part) q) room new r
CopiesPart part (Err e) room new r = (r ≡ Err e) × (new ≡ room)

-- part 0 of a profile is its octets, and others are of one of IIOP
abbrev pub OnPart : (index part : ℕ) → (room new : List ℕ) → Referring → Referring → Result ℕ Refusal → Type 0
OnPart index part room new s t r =
    (t ≡ s) × (part ≡ 0 → Copies (option_map (λ p. p.octets.items) (profile_at index s)) room new r)
    × (part ≢ 0 → (seen : Result (Option IiopProfile) Refusal) × IsSeenAt (profile_at index s) seen × CopiesPart part seen room new r)

-- a tagged component is copied, and its tag given, by what a profile is seen as
abbrev pub CopiesComponent : ℕ → Result (Option IiopProfile) Refusal → (tag given : ℕ) → (room new : List ℕ) → Result ℕ Refusal → Type 0
CopiesComponent index (Ok q) tag given room new r = CopiesItem (option_and_then (component_in index) q) tag given room new r
CopiesComponent index (Err e) tag given room new r = (r ≡ Err e) × (given ≡ tag) × (new ≡ room)

abbrev pub OnComponent : (index component : ℕ) → (tag given : ℕ) → (room new : List ℕ) → Referring → Referring → Result ℕ Refusal → Type 0
OnComponent index component tag given room new s t r =
    (t ≡ s) × (seen : Result (Option IiopProfile) Refusal) × IsSeenAt (profile_at index s) seen × CopiesComponent component seen tag given room new r
