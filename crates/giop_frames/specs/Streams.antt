-- Whole streams: their messages, each with the place where it completes, and their first fault.
use Rattle.std.specs.Prelude.{◌≡◌, ℕ, ◌+◌, ◌<◌, ◌⊎◌, List, [], ◌∷◌, ◌++◌, length, Option, Some, None, if◌then◌else◌}
use Rattle.giop_frames.specs.declared.fault.StreamFault.{StreamFault}
use Rattle.giop_frames.specs.declared.limits.Limits.{Limits}
use Rattle.giop_frames.specs.declared.partial.Key.{Key}
use Rattle.giop_frames.specs.Frames.{Frame, split}
use Rattle.giop_frames.specs.Fragments.{Bad, Done, Partial, Quiet, is_key, judged, partial_of, partials_in}

-- a message that completes, joined, and the number of octets of the stream up to its end
pub record Completed : Type 0 where
  pub place : ℕ
  pub message : Frame

-- frames as messages: the messages, the first fault, and all frames before it, the latest first
pub record Reading : Type 0 where
  pub messages : List Completed
  pub fault : Option StreamFault
  pub earlier : List Frame

-- how many octets frames take
abbrev pub place_after : List Frame → ℕ
place_after [] = 0
place_after (f ∷ earlier) = place_after earlier + (12 + length f.octets)

-- frames as messages, with one message before
abbrev pub after_message : Completed → Reading → Reading
after_message m r = record r { messages = m ∷ r.messages }

-- frames after those earlier ones, and after them the fault of a header, if there is one
abbrev pub reading_from : Limits → List Frame → Option StreamFault → List Frame → Reading
reading_from limits earlier last [] = record { messages = []; fault = last; earlier = earlier }
reading_from limits earlier last (f ∷ fs) =
    elim (judged limits earlier f) [
      | Bad e ↦ record { messages = []; fault = Some e; earlier = earlier }
      | Quiet ↦ reading_from limits (f ∷ earlier) last fs
      | Done m ↦ after_message (record { place = place_after (f ∷ earlier); message = m }) (reading_from limits (f ∷ earlier) last fs)
    ]

-- the frames of a stream as messages
abbrev pub reading_of : Limits → List ℕ → Reading
reading_of limits s = reading_from limits [] (split limits s).fault (split limits s).frames

-- the messages of a stream before its first fault
unfoldable pub messages_of : Limits → List ℕ → List Completed
messages_of limits s = (reading_of limits s).messages

-- the first fault of a stream
unfoldable pub fault_of : Limits → List ℕ → Option StreamFault
fault_of limits s = (reading_of limits s).fault

-- the octets of a stream after its last whole frame
unfoldable pub rest_of : Limits → List ℕ → List ℕ
rest_of limits s = (split limits s).rest

-- the frames of a stream before its first fault, the latest first
unfoldable pub frames_of : Limits → List ℕ → List Frame
frames_of limits s = (reading_of limits s).earlier

-- a partial message under its key
pub record Entry : Type 0 where
  pub key : Key
  pub part : Partial

-- the partial message of a key among those of a list
abbrev pub part_in : List Entry → Key → Option Partial
part_in [] k = None
part_in (p ∷ ps) k = if is_key p.key k then Some p.part else part_in ps k

-- no two have one key
abbrev pub IsDistinct : List Entry → Type 0
IsDistinct [] = Unit {0}
IsDistinct (p ∷ ps) = (part_in ps p.key ≡ None) × IsDistinct ps

-- these are the partial messages after those frames
pub record Follows (parts : List Entry) (earlier : List Frame) : Type 0 where
  pub each : (k : Key) → part_in parts k ≡ partial_of earlier k
  pub count : length parts ≡ partials_in earlier
  pub distinct : IsDistinct parts

-- these octets and these partial messages are what is left of a stream without a fault
pub record Stands (limits : Limits) (pending : List ℕ) (parts : List Entry) (s : List ℕ) : Type 0 where
  pub faultless : fault_of limits s ≡ None
  pub waiting : pending ≡ rest_of limits s
  pub partial : Follows parts (frames_of limits s)

-- the fault of a stream s with more octets, and no message before it
pub record Faults (limits : Limits) (s c : List ℕ) (e : StreamFault) : Type 0 where
  pub is : fault_of limits (s ++ c) ≡ Some e
  pub same : messages_of limits (s ++ c) ≡ messages_of limits s

-- where the frame begins that has not come whole, or is refused: after the frames before it
abbrev pub frame_begins : Limits → List ℕ → ℕ
frame_begins limits s = place_after (frames_of limits s)

-- a stream without a fault waits for n more octets before anything of it can be judged
pub record Awaits (limits : Limits) (s : List ℕ) (n : ℕ) : Type 0 where
  pub some : 0 < n
  -- with fewer there is no fault, no message completes, and no frame ends
  pub fewer : (c : List ℕ) → length c < n → (fault_of limits (s ++ c) ≡ None) × (messages_of limits (s ++ c) ≡ messages_of limits s) × (frame_begins limits (s ++ c) ≡ frame_begins limits s)
  -- with them a header of twelve octets ends, or the frame, if that is no fault
  pub ends : (length (rest_of limits s) + n ≡ 12) ⊎ ((c : List ℕ) → length c ≡ n → (rest_of limits (s ++ c) ≡ []) ⊎ ¬ (fault_of limits (s ++ c) ≡ None))
  -- and a fault is one of the frame that has begun
  pub fault : (c : List ℕ) (e : StreamFault) → length c ≡ n → fault_of limits (s ++ c) ≡ Some e → frame_begins limits (s ++ c) ≡ frame_begins limits s
