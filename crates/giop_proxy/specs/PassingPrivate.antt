-- Words of private functions, and of what is true of a reader's fields: what the code's own values stand for. No contract of a
-- public call cites them, and nobody has to read them to know what is promised.
use Rattle.std.specs.Prelude.{◌≡◌, ℕ, ◌+◌, ◌<◌, ◌≤◌, ◌++◌, List, [], Option, Some, None, Bool, true, length, drop, map}
use Rattle.std.specs.Option.{option_map}
use Rattle.giop_core.specs.declared.header.Header.{Header}
use Rattle.giop_frames.specs.declared.fault.StreamFault.{StreamFault}
use Rattle.giop_frames.specs.declared.limits.Limits.{Limits}
use Rattle.giop_frames.specs.Frames.{Frame, Sight, Refused, Waiting, Whole}
use Rattle.giop_proxy.specs.declared.passes.looking.Seen.{Seen}
use Rattle.giop_proxy.specs.declared.passes.looking.Seen.TheVariants.{Waiting as SeenWaiting, Kept as SeenKept, Refused as SeenRefused}
use Rattle.giop_core.specs.declared.message.Places.{Places}
use Rattle.giop_core.specs.Places.{ArePlacesOf}
use Rattle.giop_proxy.specs.declared.passes.coming.Coming.{Coming as ComingHere}
use Rattle.giop_proxy.specs.declared.passes.coming.Part.{Part}
use Rattle.giop_proxy.specs.declared.passes.coming.Told.{Told as ToldHere}
use Rattle.giop_proxy.specs.declared.passes.keys.Key.{Key}
use Rattle.giop_proxy.specs.PassingMessages.{AreWithin, Coming, Entry, Hearing, StandsFor, Step, Told, told_held, told_of}
use Rattle.giop_proxy.specs.Passing.{OnHeaderFault, Splitting, octets_held, given, kept_size, sight, split_from}

-- octets of a header and after it, as a frame under that header
abbrev pub framed : Header → List ℕ → Frame
framed h b = record { header = h; octets = drop 12 b }

-- the octets of the frame that has not come: none, where a frame is lent
abbrev pub pending_at : Option Header → List ℕ → List ℕ
pending_at None b = b
pending_at (Some h) b = []

-- the frame that is lent
abbrev pub frame_at : Option Header → List ℕ → Option Frame
frame_at None b = None
frame_at (Some h) b = Some (framed h b)

-- its header
abbrev pub header_of_frame : Option Frame → Option Header
header_of_frame None = None
header_of_frame (Some f) = Some f.header

-- what the code sees, whose octets are these
abbrev pub sight_at : Seen → List ℕ → Sight
sight_at (SeenWaiting n) b = Waiting
sight_at (SeenKept h) b = Whole (framed h b)
sight_at (SeenRefused e) b = Refused e

-- the octets end where something is judged
abbrev pub IsExact : Limits → List ℕ → Sight → Type 0
IsExact limits b Waiting = Unit {0}
IsExact limits b (Whole f) = length b ≡ kept_size limits f.header
IsExact limits b (Refused e) = length b ≡ 12

-- n more octets are needed: with fewer nothing can be judged, and with n something is judged at their end, or they are the
-- last of a header, and more are needed
pub record Needs (limits : Limits) (b : List ℕ) (n : ℕ) : Type 0 where
  pub some : 0 < n
  pub waits : (c : List ℕ) → length c < n → sight limits (b ++ c) ≡ Waiting
  pub exact : (c : List ℕ) → length c ≡ n → IsExact limits (b ++ c) (sight limits (b ++ c))

-- what is seen as too few octets needs as many more as it says
abbrev pub NeedsAsSeen : Seen → Limits → List ℕ → Type 0
NeedsAsSeen (SeenWaiting n) limits b = Needs limits b n
NeedsAsSeen (SeenKept h) limits b = Unit {0}
NeedsAsSeen (SeenRefused e) limits b = Unit {0}

-- octets c after those kept so far and some that are passed over: what is left of these, and the frame that they complete
abbrev pub IsPassed : Limits → List ℕ → ℕ → List ℕ → Option Header → List ℕ → ℕ → Type 0
IsPassed limits w o c complete b o' = split_from limits w o c ≡ record { frames = given (frame_at complete b); rest = pending_at complete b; over = o'; fault = None }

-- the header of a frame is refused, and no frame comes before it
pub record Stops (limits : Limits) (w : List ℕ) (o : ℕ) (c : List ℕ) (e : StreamFault) : Type 0 where
  pub frames : (split_from limits w o c).frames ≡ []
  pub fault : (split_from limits w o c).fault ≡ Some e

-- so it is, or an allocation failed
abbrev pub IsRefused : Limits → List ℕ → ℕ → List ℕ → StreamFault → Type 0
IsRefused limits w o c e = OnHeaderFault e (Stops limits w o c e)

-- what is kept of a frame is a header at least, and no more than a message may have
pub record IsFront (limits : Limits) (h : Header) (b : List ℕ) : Type 0 where
  pub headed : 12 ≤ length b
  pub within : length b ≤ limits.message
  pub size : length b ≡ kept_size limits h

-- so is what is lent, if something is
abbrev pub IsKept : Limits → Option Header → List ℕ → Type 0
IsKept limits None b = Unit {0}
IsKept limits (Some h) b = IsFront limits h b

-- what is true of the fields of a reader of frames
pub record IsSplitting (limits : Limits) (failed : Bool) (complete : Option Header) (b : List ℕ) (needed : ℕ) : Type 0 where
  pub needs : Needs limits (pending_at complete b) needed
  pub kept : IsKept limits complete b
  pub silent : failed ≡ true → (complete ≡ None) × (b ≡ [])

-- what has come of a message, without the twelve octets of its header
abbrev pub coming_at : ComingHere → Coming
coming_at m = record { header = m.header; octets = drop 12 m.octets.items; begins = m.begins; cuts = m.cuts.items }

-- the frame that it is, where it is one
abbrev pub frame_in : ComingHere → Frame
frame_in m = framed m.header m.octets.items

-- a message under its key
abbrev pub entry_at : Part → Entry
entry_at p = record { key = p.key; message = coming_at p.message }

abbrev pub entries : List Part → List Entry
entries ps = map entry_at ps

-- what is told
abbrev pub told_at : ToldHere → Told
told_at t = record { message = coming_at t.message; fault = t.fault }

-- what a frame leaves is what the definition says
pub record IsStep (given_told : Option ToldHere) (s : Step) (ps : List Entry) (js : List Key) : Type 0 where
  pub given : option_map told_at given_told ≡ s.told
  pub parts : ps ≡ s.parts
  pub passed : js ≡ s.passed

-- the parts of a message without a fault lie at these places
abbrev pub ArePlacedUnless : Option StreamFault → ComingHere → Places → Type 0
ArePlacedUnless None m places = ArePlacesOf m.header (drop 12 m.octets.items) places
ArePlacedUnless (Some e) m places = Unit {0}

abbrev pub IsPlaced : ToldHere → Type 0
IsPlaced t = ArePlacedUnless t.fault t.message t.places

abbrev pub IsPlacedIf : Option ToldHere → Type 0
IsPlacedIf None = Unit {0}
IsPlacedIf (Some t) = IsPlaced t

-- what a reader of messages is left with by more octets, and what is told
pub record IsHeard (limits : Limits) (s c : List ℕ) (given_told : Option ToldHere) (a : Hearing) : Type 0 where
  pub stands : StandsFor a (s ++ c)
  pub limits_stay : a.frames.limits ≡ limits
  pub tells : told_of limits (s ++ c) ≡ told_of limits s ++ given (option_map told_at given_told)

-- the frame that has not come and what is lent are together within the limit
abbrev pub IsFrontHeld : Splitting → Option Told → Type 0
IsFrontHeld v t = octets_held v.frame v.pending + told_held t ≤ v.limits.message

-- and the messages whose fragments have not all come are
pub record AreHeld (frames : Splitting) (t : Option Told) (ps : List Entry) : Type 0 where
  pub front : IsFrontHeld frames t
  pub parts : AreWithin frames.limits ps

-- what is true of the fields of a reader of messages
pub record IsHearing (frames : Splitting) (given_told : Option ToldHere) (ps : List Entry) : Type 0 where
  pub placed : IsPlacedIf given_told
  pub alone : frames.frame ≡ None
  pub held : AreHeld frames (option_map told_at given_told) ps
