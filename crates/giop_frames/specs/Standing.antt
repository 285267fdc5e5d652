-- What callers see of an assembler, and the stream that it stands for.
use Rattle.std.specs.Prelude.{◌≡◌, ℕ, ◌+◌, ◌*◌, ◌^◌, ◌<◌, ◌≤◌, Bool, false, List, [], ◌∷◌, length, drop, map, Option, Some, None, Ok}
use Rattle.giop_core.specs.declared.header.Header.{Header}
use Rattle.giop_core.specs.declared.message.Message.{Message}
use Rattle.giop_core.specs.Content.{Rest}
use Rattle.giop_core.specs.Lent as lent
use Rattle.giop_core.specs.Places.{Headed}
use Rattle.giop_frames.specs.declared.fault.StreamFault.{StreamFault}
use Rattle.giop_frames.specs.declared.fault.StreamFault.TheVariants.{Failed, Memory}
use Rattle.giop_frames.specs.declared.limits.Limits.{Limits}
use Rattle.giop_frames.specs.declared.partial.Part.{Part}
use Rattle.giop_frames.specs.Frames.{Frame}
use Rattle.giop_frames.specs.Fragments.{content_of}
use Rattle.giop_frames.specs.Streams.{Completed, Entry, Faults, Stands}

-- an assembler: its limits, whether there was a fault, the octets of the frame that isn't whole, the partial messages,
-- and the message that is lent
pub record Standing : Type 0 where
  pub limits : Limits
  pub failed : Bool
  pub pending : List ℕ
  pub parts : List Entry
  pub message : Option Frame

-- octets of a header and after it, as a frame under that header
abbrev pub framed : Header → List ℕ → Frame
framed h b = record { header = h; octets = drop 12 b }

-- a message that was read, as a frame
abbrev pub frame_of : Headed → Frame
frame_of m = record { header = m.header; octets = m.octets }

-- a partial message under its key, without the twelve octets of its header
abbrev pub entry_of : Part → Entry
entry_of p = record { key = p.key; part = record { header = p.header; octets = drop 12 p.octets.items } }

-- the partial messages under their keys
abbrev pub entries : List Part → List Entry
entries ps = map entry_of ps

-- the octets of the frame that isn't whole: none, where a message is lent
abbrev pub pending_at : Option Header → List ℕ → List ℕ
pending_at None b = b
pending_at (Some h) b = []

-- the message that is lent
abbrev pub message_at : Option Header → List ℕ → Option Frame
message_at None b = None
message_at (Some h) b = Some (framed h b)

-- an assembler stands for the stream s
pub record StandsFor (a : Standing) (s : List ℕ) : Type 0 where
  pub live : a.failed ≡ false
  pub stands : Stands a.limits a.pending a.parts s

-- the message that completes at a place, if there is one
abbrev pub completed_at : ℕ → Option Frame → List Completed
completed_at n None = []
completed_at n (Some m) = record { place = n; message = m } ∷ []

-- a fact about a fault of the stream; an allocation that failed is none, and `Failed` is never the first
abbrev pub OnFault : StreamFault → Type 0 → Type 0
OnFault Memory P = Unit {0}
OnFault Failed P = ⊥
OnFault e P = P

-- an error is that an allocation failed, or the fault of the stream s with more octets
abbrev pub IsFault : Limits → List ℕ → List ℕ → StreamFault → Type 0
IsFault limits s c e = OnFault e (Faults limits s c e)

-- a lent message says what the octets of a message say
pub record IsLent (m : Message) (f : Frame) : Type 0 where
  pub version : m.version ≡ f.header.version
  pub order : m.order ≡ f.header.order
  pub content : content_of f.header f.octets ≡ Ok (lent.content_of m.content)

-- the place of a body is one that the readers of values take
abbrev pub HasPlace : Rest → Type 0
HasPlace r = r.place < 2 ^ 32

-- no partial message is longer than the limit
abbrev pub AreShort : Limits → List Entry → Type 0
AreShort limits [] = Unit {0}
AreShort limits (p ∷ ps) = (12 + length p.part.octets ≤ limits.message) × AreShort limits ps

-- partial messages within the limits
pub record AreWithin (limits : Limits) (ps : List Entry) : Type 0 where
  pub count : length ps ≤ limits.partials
  pub each : AreShort limits ps

-- how many octets partial messages hold, the headers of their first frames among them
abbrev pub parts_held : List Entry → ℕ
parts_held [] = 0
parts_held (p ∷ ps) = (12 + length p.part.octets) + parts_held ps

-- how many octets the frame that isn't whole holds, or the message that is lent
abbrev pub frame_held : Option Frame → List ℕ → ℕ
frame_held None pending = length pending
frame_held (Some m) pending = 12 + length m.octets

-- how many octets an assembler holds
abbrev pub octets_held : Standing → ℕ
octets_held a = frame_held a.message a.pending + parts_held a.parts

-- what an assembler holds is bounded: the frame or the message that is lent is within the limit, the partial messages
-- are, and with them all octets
pub record IsBounded (a : Standing) : Type 0 where
  pub frame : frame_held a.message a.pending ≤ a.limits.message
  pub parts : AreWithin a.limits a.parts
  pub all : octets_held a ≤ (a.limits.partials + 1) * a.limits.message
