-- The laws, each over the definitions alone.
use Rattle.std.specs.Prelude.{◌≡◌, ℕ, ◌<◌, List, [], ◌++◌, length, Some, None}
use Rattle.std.specs.List.{AllByRecursion}
use Rattle.giop_frames.specs.declared.fault.StreamFault.{StreamFault}
use Rattle.giop_frames.specs.declared.limits.Limits.{Limits}
use Rattle.giop_frames.specs.declared.partial.Key.{Key}
use Rattle.giop_frames.specs.Completing.{AreMessages, AreRising}
use Rattle.giop_frames.specs.Frames.{Frame, Waiting, sight, split}
use Rattle.giop_frames.specs.Fragments.{Partial, partial_of}
use Rattle.giop_frames.specs.Positions.{IsPartial}
use Rattle.giop_frames.specs.Refusing.{Refuses, RefusesHeader}
use Rattle.giop_frames.specs.Splitting.{IsFrame, Splits}
use Rattle.giop_frames.specs.Streams.{Completed, Entry, Follows, fault_of, frames_of, messages_of}

-- A stream in which no header is refused is its frames and its rest, no front of which is a frame ..
abbrev pub StreamsSplit : Type 0
StreamsSplit = (limits : Limits) (s : List ℕ) → (split limits s).fault ≡ None → Splits limits s (split limits s).frames (split limits s).rest × (sight limits (split limits s).rest ≡ Waiting)

-- .. and no others.
abbrev pub SplitsAreTheOnes : Type 0
SplitsAreTheOnes = (limits : Limits) (s : List ℕ) (frames : List Frame) (rest : List ℕ) → Splits limits s frames rest → sight limits rest ≡ Waiting → split limits s ≡ record { frames = frames; rest = rest; fault = None }

-- A stream in which a header is refused is its frames, and then octets that begin with that header ..
abbrev pub StreamsAreRefused : Type 0
StreamsAreRefused = (limits : Limits) (s : List ℕ) (e : StreamFault) → (split limits s).fault ≡ Some e
    → (front : List ℕ) × (later : List ℕ) × (s ≡ front ++ later) × Splits limits front (split limits s).frames [] × RefusesHeader limits later e

-- .. and no others.
abbrev pub RefusedAreTheOnes : Type 0
RefusedAreTheOnes = (limits : Limits) (front later : List ℕ) (frames : List Frame) (e : StreamFault) → Splits limits front frames [] → RefusesHeader limits later e
    → ((split limits (front ++ later)).frames ≡ frames) × ((split limits (front ++ later)).fault ≡ Some e)

-- Octets that wait have no frame at their front.
abbrev pub RestsHaveNoFrame : Type 0
RestsHaveNoFrame = (limits : Limits) (rest front later : List ℕ) (f : Frame) → sight limits rest ≡ Waiting → rest ≡ front ++ later → IsFrame limits f front → ⊥

-- A partial message is found by positions ..
abbrev pub PartialByPosition : Type 0
PartialByPosition = (frames : List Frame) (k : Key) (p : Partial) → partial_of frames k ≡ Some p → IsPartial frames k p

-- .. and what is found by positions is partial.
abbrev pub ByPositionIsPartial : Type 0
ByPositionIsPartial = (frames : List Frame) (k : Key) (p : Partial) → IsPartial frames k p → partial_of frames k ≡ Some p

-- More octets bring more messages after those of a stream, which complete among these octets ..
abbrev pub MessagesGrow : Type 0
MessagesGrow = (limits : Limits) (s c : List ℕ) → (more : List Completed) × (messages_of limits (s ++ c) ≡ messages_of limits s ++ more) × AllByRecursion (λ m. length s < m.place) more

-- .. a fault stays the fault ..
abbrev pub FaultsStay : Type 0
FaultsStay = (limits : Limits) (s c : List ℕ) (e : StreamFault) → fault_of limits s ≡ Some e → fault_of limits (s ++ c) ≡ Some e

-- .. and after it no message completes.
abbrev pub FaultsEnd : Type 0
FaultsEnd = (limits : Limits) (s c : List ℕ) (e : StreamFault) → fault_of limits s ≡ Some e → messages_of limits (s ++ c) ≡ messages_of limits s

-- What the messages of a stream are ..
abbrev pub MessagesAreWhole : Type 0
MessagesAreWhole = (limits : Limits) (s : List ℕ) → AreMessages limits (messages_of limits s)

-- .. and where they complete.
abbrev pub PlacesRise : Type 0
PlacesRise = (limits : Limits) (s : List ℕ) → AreRising 0 (length s) (messages_of limits s)

-- The partial messages of a stream without a fault are a list in which each key stands once, and as many are counted as
-- it has.
abbrev pub PartialsAreCounted : Type 0
PartialsAreCounted = (limits : Limits) (s : List ℕ) → fault_of limits s ≡ None → (parts : List Entry) × Follows parts (frames_of limits s)

-- The fault of a stream is that of the first frame or header that is refused ..
abbrev pub FaultsAreRefusals : Type 0
FaultsAreRefusals = (limits : Limits) (s : List ℕ) (e : StreamFault) → fault_of limits s ≡ Some e → Refuses limits s e

-- .. and the other way round.
abbrev pub RefusalsAreFaults : Type 0
RefusalsAreFaults = (limits : Limits) (s : List ℕ) (e : StreamFault) → Refuses limits s e → fault_of limits s ≡ Some e
