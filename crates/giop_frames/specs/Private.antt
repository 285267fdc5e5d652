-- Words of private functions, and of what is true of an assembler's fields: what the code's own values stand for. No contract
-- of a public call cites them, and nobody has to read them to know what is promised.
use Rattle.std.specs.Prelude.{◌≡◌, ℕ, ◌+◌, ◌<◌, ◌≤◌, ◌++◌, ◌⊎◌, List, [], ◌∷◌, Option, Some, None, is_some, Ok, Err, IsOk, Bool, true, false, length, take, drop, if◌then◌else◌}
use Rattle.giop_core.specs.declared.header.Header.{Header}
use Rattle.giop_core.specs.declared.message.Places.{Places}
use Rattle.giop_core.specs.Places.{ArePlacesOf}
use Rattle.giop_frames.specs.declared.fault.StreamFault.TheVariants.{TwiceStarted}
use Rattle.giop_frames.specs.declared.deframer.Seen.{Seen}
use Rattle.giop_frames.specs.declared.deframer.Seen.TheVariants.{Waiting as SeenWaiting, Whole as SeenWhole, Refused as SeenRefused}
use Rattle.giop_frames.specs.declared.limits.Limits.{Limits}
use Rattle.giop_frames.specs.declared.partial.Key.{Key}
use Rattle.giop_frames.specs.declared.partial.Key.TheVariants.{Of11, Of12}
use Rattle.giop_frames.specs.declared.partial.Part.{Part}
use Rattle.giop_frames.specs.declared.reassembly.Role.{Role}
use Rattle.giop_frames.specs.declared.reassembly.Role.TheVariants.{Opens, Carries, Ends, Drops, Uncut, Apart}
use Rattle.giop_frames.specs.declared.reassembly.Settled.{Settled}
use Rattle.giop_frames.specs.declared.reassembly.Settled.TheVariants.{Quiet as SettledQuiet, Done as SettledDone, Bad as SettledBad}
use Rattle.giop_frames.specs.declared.reassembly.TakenUp.{TakenUp}
use Rattle.giop_frames.specs.declared.reassembly.TakenUp.TheVariants.{Continued, Refused as TakenUpRefused}
use Rattle.giop_frames.specs.Frames.{Frame, Sight, Waiting, Whole, Refused, frame_size, sight}
use Rattle.giop_frames.specs.Fragments.{Partial, Verdict, opened_by, role_of, Quiet, Done, Bad, content_of, continued_by, id_of, is_cancelled, is_key, key_of, judged_as, judged_by, joinable, judged_whole}
use Rattle.giop_frames.specs.Standing.{AreWithin, completed_at, entry_of, framed, message_at, pending_at}
use Rattle.giop_frames.specs.Streams.{Entry, Stands, messages_of, part_in}

-- what the code sees, whose octets are these
abbrev pub sight_at : Seen → List ℕ → Sight
sight_at (SeenWaiting n) b = Waiting
sight_at (SeenWhole h) b = Whole (framed h b)
sight_at (SeenRefused e) b = Refused e

-- the octets end where something is judged
abbrev pub IsExact : List ℕ → Sight → Type 0
IsExact b Waiting = Unit {0}
IsExact b (Whole f) = length b ≡ frame_size f.header
IsExact b (Refused e) = length b ≡ 12

-- n more octets are needed: with fewer nothing can be judged, and with n something is judged at their end, or they are the
-- last of a header, and more are needed
pub record Needs (limits : Limits) (b : List ℕ) (n : ℕ) : Type 0 where
  pub some : 0 < n
  pub waits : (c : List ℕ) → length c < n → sight limits (b ++ c) ≡ Waiting
  pub exact : (c : List ℕ) → length c ≡ n → IsExact (b ++ c) (sight limits (b ++ c))
  pub ends : (length b + n ≡ 12) ⊎ ((c : List ℕ) → length c ≡ n → ¬ (sight limits (b ++ c) ≡ Waiting))

-- what is seen as too few octets needs as many more as it says
abbrev pub NeedsAsSeen : Seen → Limits → List ℕ → Type 0
NeedsAsSeen (SeenWaiting n) limits b = Needs limits b n
NeedsAsSeen (SeenWhole h) limits b = Unit {0}
NeedsAsSeen (SeenRefused e) limits b = Unit {0}

-- the partial messages but for that of a key
abbrev pub without : Key → List Entry → List Entry
without k [] = []
without k (p ∷ ps) = if is_key p.key k then ps else p ∷ without k ps

-- .. but for that of 1.1, where a CancelRequest of a request id is for it
abbrev pub without_early : ℕ → List Entry → List Entry
without_early i ps = if is_cancelled i Of11 (part_in ps Of11) then without Of11 ps else ps

-- .. and but for both that a CancelRequest of a request id is for
abbrev pub uncancelled : ℕ → List Entry → List Entry
uncancelled i ps = without_early i (without (Of12 i) ps)

-- the partial messages after a Fragment with more to come
abbrev pub carried : List Entry → Frame → Option Partial → List Entry
carried ps f None = ps
carried ps f (Some p) = without (key_of f) ps ++ record { key = key_of f; part = continued_by f p } ∷ []

-- the partial messages that a frame leaves, by its role
unfoldable pub parts_as : Role → List Entry → Frame → List Entry
parts_as Opens ps f = ps ++ record { key = key_of f; part = opened_by f } ∷ []
parts_as Carries ps f = carried ps f (part_in ps (key_of f))
parts_as Ends ps f = without (key_of f) ps
parts_as Drops ps f = uncancelled (id_of f) ps
parts_as Uncut ps f = ps
parts_as Apart ps f = ps

-- the partial messages that a frame leaves
abbrev pub parts_after : List Entry → Frame → List Entry
parts_after ps f = parts_as (role_of f.header) ps f

-- what the code judges a frame to be, whose octets are these
abbrev pub verdict_at : Settled → List ℕ → Verdict
verdict_at SettledQuiet b = Quiet
verdict_at (SettledDone h) b = Done (framed h b)
verdict_at (SettledBad e) b = Bad e

-- the parts of a message that it completes lie at these places
abbrev pub IsPlaced : Settled → List ℕ → Places → Type 0
IsPlaced (SettledDone h) b places = ArePlacesOf h (drop 12 b) places
IsPlaced _ b places = Unit {0}

-- the judgement of a whole message that could have been cut
abbrev pub judged_uncut : List Entry → Frame → Verdict
judged_uncut ps f = if is_some (part_in ps (key_of f)) then Bad TwiceStarted else judged_whole f

-- a Fragment, joined to its partial message, which is no longer among the others
pub record IsContinued (p : Part) (limits : Limits) (f : Frame) (ps after : List Entry) : Type 0 where
  pub before : Partial
  pub had : part_in ps (key_of f) ≡ Some before
  pub fits : joinable limits f (Some before) ≡ Ok before
  pub entry : entry_of p ≡ record { key = key_of f; part = continued_by f before }
  pub others : after ≡ without (key_of f) ps
  pub within : length p.octets.items ≤ limits.message

-- a Fragment is joined, or refused
abbrev pub IsTakenUp : TakenUp → Limits → Frame → List Entry → List Entry → Type 0
IsTakenUp (Continued p) limits f ps after = IsContinued p limits f ps after
IsTakenUp (TakenUpRefused e) limits f ps after = joinable limits f (part_in ps (key_of f)) ≡ Err e

-- what is left of a frame and the partial messages, by what the frame is judged to be
abbrev pub IsLeft : Settled → Verdict → List ℕ → List Entry → List Entry → Type 0
IsLeft SettledQuiet v b ps after = (v ≡ Quiet) × (b ≡ []) × (ps ≡ after)
IsLeft (SettledDone h) v b ps after = (v ≡ Done (framed h b)) × (ps ≡ after) × (12 ≤ length b)
IsLeft (SettledBad e) v b ps after = v ≡ Bad e

-- from the octets b and the partial messages ps to b' and ps', of a frame under the header h
abbrev pub IsSettled : Settled → Limits → Header → List ℕ → List ℕ → List Entry → List Entry → Type 0
IsSettled s limits h b b' ps ps' = IsLeft s (judged_by limits (part_in ps Of11) (part_in ps (key_of (framed h b))) (length ps) (framed h b)) b' ps' (parts_after ps (framed h b))

-- from the octets b and the partial messages ps to b' and ps', of a frame under the header h, in a role
abbrev pub IsSettledAs : Role → Settled → Limits → Header → List ℕ → List ℕ → List Entry → List Entry → Type 0
IsSettledAs r s limits h b b' ps ps' = IsLeft s (judged_as r limits (part_in ps (key_of (framed h b))) (length ps) (framed h b)) b' ps' (parts_as r ps (framed h b))

-- the roles of a message that is judged by itself where none is partial, and leaves it so
abbrev pub is_alone : Role → Bool
is_alone Uncut = true
is_alone Apart = true
is_alone _ = false

-- a message lies whole where a piece begins, is judged by itself, and its parts lie at these places
pub record LiesWhole (limits : Limits) (piece : List ℕ) (h : Header) (places : Places) : Type 0 where
  pub within : frame_size h ≤ length piece
  pub seen : sight limits (take (frame_size h) piece) ≡ Whole (framed h (take (frame_size h) piece))
  pub settled : IsSettled (SettledDone h) limits h (take (frame_size h) piece) (take (frame_size h) piece) [] []
  pub placed : ArePlacesOf h (drop 12 (take (frame_size h) piece)) places

-- a message that is lent reads, and is no longer than the limit
pub record IsWhole (limits : Limits) (h : Header) (b : List ℕ) : Type 0 where
  pub headed : 12 ≤ length b
  pub within : length b ≤ limits.message
  pub reads : IsOk (content_of h (drop 12 b))

-- so is the message that is lent, if there is one
abbrev pub IsKept : Limits → Option Header → List ℕ → Type 0
IsKept limits None b = Unit {0}
IsKept limits (Some h) b = IsWhole limits h b

-- its parts lie at these places
abbrev pub ArePlaced : Option Header → List ℕ → Places → Type 0
ArePlaced None b places = Unit {0}
ArePlaced (Some h) b places = ArePlacesOf h (drop 12 b) places

-- one step of a stream: octets c after s, which complete a message under a header or none
pub record IsStep (limits : Limits) (s c : List ℕ) (complete : Option Header) (b : List ℕ) (ps : List Entry) : Type 0 where
  pub stands : Stands limits (pending_at complete b) ps (s ++ c)
  pub messages : messages_of limits (s ++ c) ≡ messages_of limits s ++ completed_at (length (s ++ c)) (message_at complete b)

-- what is true of an assembler's fields
pub record IsSound (limits : Limits) (failed : Bool) (complete : Option Header) (b : List ℕ) (places : Places) (needed : ℕ) (ps : List Entry) : Type 0 where
  pub needs : Needs limits (pending_at complete b) needed
  pub kept : IsKept limits complete b
  pub placed : ArePlaced complete b places
  pub within : AreWithin limits ps
  pub silent : failed ≡ true → (complete ≡ None) × (b ≡ []) × (ps ≡ [])

-- octets with others after them
abbrev pub IsAppended : List ℕ → List ℕ → Type 0
IsAppended old new = (more : List ℕ) × (new ≡ old ++ more)
