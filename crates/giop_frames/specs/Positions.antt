-- GIOP 9.4.9: which first frame a Fragment belongs to, by positions.
use Rattle.std.specs.Prelude.{◌≡◌, ℕ, Bool, false, List, [], ◌∷◌, ◌++◌, if◌then◌else◌}
use Rattle.giop_frames.specs.declared.partial.Key.{Key}
use Rattle.giop_frames.specs.declared.reassembly.Role.{Role}
use Rattle.giop_frames.specs.declared.reassembly.Role.TheVariants.{Opens, Carries, Ends, Drops}
use Rattle.giop_frames.specs.Frames.{Frame}
use Rattle.giop_frames.specs.Fragments.{Partial, cancels, id_of, is_key, key_of, payload_of, role_of}

-- the payload of a Fragment of a key with more to come
abbrev pub payload_by : Role → Key → Frame → List ℕ
payload_by Carries k f = if is_key (key_of f) k then payload_of f else []
payload_by _ k f = []

-- the payloads of the Fragments of a key among frames, the latest first
abbrev pub payloads_in : Key → List Frame → List ℕ
payloads_in k [] = []
payloads_in k (f ∷ fs) = payloads_in k fs ++ payload_by (role_of f.header) k f

-- a first frame, and the payloads of the Fragments of its key after it
abbrev pub so_far : Key → Frame → List Frame → Partial
so_far k first later = record { header = first.header; octets = first.octets ++ payloads_in k later }

-- what starts the message of a key anew, ends it, or drops what has come of it
abbrev pub breaks : Role → Key → Frame → Partial → Bool
breaks Opens k f p = is_key (key_of f) k
breaks Ends k f p = is_key (key_of f) k
breaks Drops k f p = cancels (id_of f) k p
breaks _ k f p = false

-- none of these frames after a first frame does, with what has come up to there
abbrev pub IsUnbroken : Key → Frame → List Frame → Type 0
IsUnbroken k first [] = Unit {0}
IsUnbroken k first (f ∷ fs) = (breaks (role_of f.header) k f (so_far k first fs) ≡ false) × IsUnbroken k first fs

-- the last first frame of a key, and the payloads of the Fragments after it, where no end and no cancel of it stands between
pub record IsPartial (frames : List Frame) (k : Key) (p : Partial) : Type 0 where
  pub later : List Frame
  pub first : Frame
  pub before : List Frame
  pub parts : frames ≡ later ++ first ∷ before
  pub key : key_of first ≡ k
  pub opens : role_of first.header ≡ Opens
  pub unbroken : IsUnbroken k first later
  pub says : p ≡ so_far k first later
