-- What is written is read again, whole or cut.
use Rattle.std.specs.Prelude.{◌≡◌, ℕ, ◌+◌, ◌^◌, ◌<◌, ◌≤◌, nat_lt, ◌&&◌, List, [], ◌∷◌, ◌++◌, length, take, drop, Bool, true, false, Option, Some, None, Ok, IsOk, if◌then◌else◌}
use Rattle.std.specs.List.{AllByRecursion, flat_map}
use Rattle.cdr_core.specs.declared.order.Order.{Order}
use Rattle.giop_core.specs.declared.header.Header.{Header}
use Rattle.giop_core.specs.declared.header.MessageKind.{MessageKind}
use Rattle.giop_core.specs.declared.header.MessageKind.TheVariants.{CancelRequest, Fragment}
use Rattle.giop_core.specs.declared.header.Version.{Version}
use Rattle.giop_core.specs.Headers.{header_of}
use Rattle.giop_core.specs.Messages.{message_of}
use Rattle.giop_core.specs.Written.{header_for, message_octets}
use Rattle.giop_frames.specs.declared.fault.StreamFault.{StreamFault}
use Rattle.giop_frames.specs.declared.fault.StreamFault.TheVariants.{TooLarge}
use Rattle.giop_frames.specs.declared.limits.Limits.{Limits}
use Rattle.giop_frames.specs.declared.partial.Key.{Key}
use Rattle.giop_frames.specs.declared.partial.Key.TheVariants.{Of11}
use Rattle.giop_frames.specs.declared.reassembly.Role.TheVariants.{Uncut}
use Rattle.giop_frames.specs.Cutting.{cut_octets, is_cuttable_in}
use Rattle.giop_frames.specs.Fragments.{Partial, content_of, id_of, is_cancelled, key_of, partial_of, partials_in, role_of}
use Rattle.giop_frames.specs.Frames.{Frame, id_length, may_be_cut}
use Rattle.giop_frames.specs.Streams.{Completed, Faults, fault_of, frames_of, messages_of, rest_of}

-- a message under its header
abbrev pub under : Header → List ℕ → Frame
under h message = record { header = h; octets = drop 12 message }

-- whether messages of a kind cancel
abbrev pub is_cancel : MessageKind → Bool
is_cancel CancelRequest = true
is_cancel _ = false

-- the partial message of a key that a message leaves of the one before: a CancelRequest drops its own
abbrev pub left_by : Frame → Key → Option Partial → Option Partial
left_by m k before = if is_cancel m.header.kind && is_cancelled (id_of m) k before then None else before

-- with the octets c the stream s completes one message and no other, without a fault and without a rest, and the partial
-- messages are those before but for one that is cancelled
pub record Completes (limits : Limits) (s c : List ℕ) (m : Frame) : Type 0 where
  pub messages : messages_of limits (s ++ c) ≡ messages_of limits s ++ record { place = length (s ++ c); message = m } ∷ []
  pub faultless : fault_of limits (s ++ c) ≡ None
  pub all : rest_of limits (s ++ c) ≡ []
  pub partial : (k : Key) → partial_of (frames_of limits (s ++ c)) k ≡ left_by m k (partial_of (frames_of limits s) k)
  pub few : partials_in (frames_of limits (s ++ c)) ≤ partials_in (frames_of limits s)

-- a whole message, as it is written
abbrev pub written : Version → MessageKind → Order → List ℕ → Frame
written version kind order body = record { header = header_for version kind order (length body); octets = body }

-- what is written for a message of any kind but a Fragment, at the end of a stream without a fault and without a rest,
-- completes that message and no other, if it is valid within the limit, no message of its request id is partial and, unless
-- it is a CancelRequest, none of 1.1
abbrev pub WrittenIsReadAgain : Type 0
WrittenIsReadAgain = (limits : Limits) (s body : List ℕ) (version : Version) (kind : MessageKind) (order : Order)
    → fault_of limits s ≡ None → rest_of limits s ≡ []
    → (role_of (header_for version kind order (length body)) ≡ Uncut → partial_of (frames_of limits s) (key_of (written version kind order body)) ≡ None)
    → (is_cancel kind ≡ false → partial_of (frames_of limits s) Of11 ≡ None)
    → (kind ≡ Fragment → ⊥) → 12 + length body ≤ limits.message → IsOk (message_of version kind order body)
    → Completes limits s (message_octets version kind order body) (written version kind order body)

-- what a message of a version that can be cut is cut into, at the end of a stream without a fault and without a rest, where
-- no message of its request id is partial, none of 1.1, one more may be, and it may be cut after n octets, completes that message and no other, if it is
-- valid within the limit
abbrev pub CutIsReadAgain : Version → Type 0
CutIsReadAgain v = (limits : Limits) (s message : List ℕ) (n : ℕ) (h : Header)
    → fault_of limits s ≡ None → rest_of limits s ≡ []
    → partial_of (frames_of limits s) (key_of (under h message)) ≡ None → partial_of (frames_of limits s) Of11 ≡ None
    → partials_in (frames_of limits s) < limits.partials
    → is_cuttable_in v message ≡ true → header_of (take 12 message) ≡ Ok h → 20 + id_length v ≤ n → may_be_cut limits.cuts v n ≡ true
    → length message ≤ limits.message → IsOk (content_of h (drop 12 message))
    → Completes limits s (cut_octets n h message) (under h message)

-- what is written for a message of any kind but a Fragment, where it is over the limit, is refused
abbrev pub WrittenTooLarge : Type 0
WrittenTooLarge = (limits : Limits) (s body : List ℕ) (version : Version) (kind : MessageKind) (order : Order)
    → fault_of limits s ≡ None → rest_of limits s ≡ [] → (kind ≡ Fragment → ⊥) → length body < 2 ^ 32 → limits.message < 12 + length body
    → Faults limits s (message_octets version kind order body) TooLarge

-- a message to be written
pub record Sent : Type 0 where
  pub version : Version
  pub kind : MessageKind
  pub order : Order
  pub body : List ℕ

-- one that a reader with these limits takes: it is no Fragment, is within the limit, and is valid
pub record IsSendable (limits : Limits) (m : Sent) : Type 0 where
  pub kind : m.kind ≡ Fragment → ⊥
  pub within : 12 + length m.body ≤ limits.message
  pub reads : IsOk (message_of m.version m.kind m.order m.body)

-- messages as they are written, one after another
abbrev pub sent_octets : List Sent → List ℕ
sent_octets ms = flat_map (λ m. message_octets m.version m.kind m.order m.body) ms

-- messages as they complete where they are written one after another, after n octets
abbrev pub sent_from : ℕ → List Sent → List Completed
sent_from n [] = []
sent_from n (m ∷ ms) = record { place = n + (12 + length m.body); message = written m.version m.kind m.order m.body } ∷ sent_from (n + (12 + length m.body)) ms

-- a stream without a fault, without a rest, and without a partial message
pub record IsClear (limits : Limits) (s : List ℕ) : Type 0 where
  pub faultless : fault_of limits s ≡ None
  pub all : rest_of limits s ≡ []
  pub none : (k : Key) → partial_of (frames_of limits s) k ≡ None

-- the empty stream is clear ..
abbrev pub NothingIsClear : Type 0
NothingIsClear = (limits : Limits) → IsClear limits []

-- .. and any list of messages that are written completes these messages and no others after a clear stream, which it
-- leaves clear
abbrev pub SentAreReadAgain : Type 0
SentAreReadAgain = (limits : Limits) (s : List ℕ) (ms : List Sent) → IsClear limits s → AllByRecursion (IsSendable limits) ms
    → (messages_of limits (s ++ sent_octets ms) ≡ messages_of limits s ++ sent_from (length s) ms) × IsClear limits (s ++ sent_octets ms)

-- a valid message, of any size that a header can say, that is no Fragment
pub record IsReadable (m : Sent) : Type 0 where
  pub kind : m.kind ≡ Fragment → ⊥
  pub size : length m.body < 2 ^ 32
  pub reads : IsOk (message_of m.version m.kind m.order m.body)

-- the messages before the first that is over the limit ..
abbrev pub sent_within : Limits → List Sent → List Sent
sent_within limits [] = []
sent_within limits (m ∷ ms) = if nat_lt limits.message (12 + length m.body) then [] else m ∷ sent_within limits ms

-- .. and the fault of that one, if there is one
abbrev pub sent_fault : Limits → List Sent → Option StreamFault
sent_fault limits [] = None
sent_fault limits (m ∷ ms) = if nat_lt limits.message (12 + length m.body) then Some TooLarge else sent_fault limits ms

-- Of any list of messages that are written after a clear stream those before the first that is over the limit complete; that
-- one is a fault, and nothing after it completes.
abbrev pub SentAreReadUpToTheLimit : Type 0
SentAreReadUpToTheLimit = (limits : Limits) (s : List ℕ) (ms : List Sent) → IsClear limits s → AllByRecursion IsReadable ms
    → (messages_of limits (s ++ sent_octets ms) ≡ messages_of limits s ++ sent_from (length s) (sent_within limits ms)) × (fault_of limits (s ++ sent_octets ms) ≡ sent_fault limits ms)
