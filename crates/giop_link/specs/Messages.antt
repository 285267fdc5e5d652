-- What is heard of a stream, and how it ends, without a reader.
use Rattle.std.specs.Prelude.{◌≡◌, ℕ, List, [], ◌∷◌, ◌++◌, Option, Some, ⊤}
use Rattle.std.specs.Option.{option_map}
use Rattle.giop_core.specs.declared.header.MessageKind.{MessageKind}
use Rattle.giop_core.specs.declared.header.MessageKind.TheVariants.{Request, Reply, CancelRequest, LocateRequest, LocateReply, CloseConnection, MessageError}
use Rattle.giop_frames.specs.declared.fault.StreamFault.{StreamFault}
use Rattle.giop_frames.specs.declared.limits.Limits.{Limits}
use Rattle.giop_frames.specs.Frames.{Frame}
use Rattle.giop_frames.specs.Streams.{Completed, fault_of, messages_of}
use Rattle.giop_link.specs.Answering.{Answer, located, replied}
use Rattle.giop_link.specs.Hearing.{Ending, Meaning, Sound, asks, cancels, ends, faulty, locates, peer_closed, peer_error, says, wrong_direction}

-- these messages, one by one, are what is heard, by what each is to its reader
abbrev pub AreHeard : {Heard : Type 0} → (Frame → Sound Heard) → List Completed → List Heard → Type 0
AreHeard sound [] [] = Unit {0}
AreHeard sound (m ∷ ms) (x ∷ xs) = (sound m.message ≡ says x) × AreHeard sound ms xs
AreHeard sound _ _ = ⊥

-- the end of a stream with this fault and these messages after those that are heard: the first of them is the end, or, where
-- there is none, the fault
abbrev pub IsEnd : {Heard : Type 0} → (Frame → Sound Heard) → Option StreamFault → List Completed → Option Ending → Type 0
IsEnd sound last [] end = end ≡ option_map faulty last
IsEnd sound last (m ∷ ms) end = (e : Ending) × (sound m.message ≡ ends e) × (end ≡ Some e)

-- the messages of a stream are those that are heard, and then those from its end on
pub record Hears {Heard : Type 0} (sound : Frame → Sound Heard) (limits : Limits) (s : List ℕ) (xs : List Heard) (end : Option Ending) : Type 0 where
  pub front : List Completed
  pub later : List Completed
  pub parts : messages_of limits s ≡ front ++ later
  pub heard_are : AreHeard sound front xs
  pub end_is : IsEnd sound (fault_of limits s) later end

-- GIOP 9.4.1: what a message of a kind is to a server, by who may send it
abbrev pub IsByKind : MessageKind → Meaning → Type 0
IsByKind Request (says (asks q)) = ⊤
IsByKind LocateRequest (says (locates version id to)) = ⊤
IsByKind CancelRequest (says (cancels id)) = ⊤
IsByKind CloseConnection (ends peer_closed) = ⊤
IsByKind MessageError (ends peer_error) = ⊤
IsByKind Reply (ends wrong_direction) = ⊤
IsByKind LocateReply (ends wrong_direction) = ⊤
IsByKind _ _ = ⊥

-- GIOP 9.4.1: and what it is to a client
abbrev pub IsAnswerByKind : MessageKind → Sound Answer → Type 0
IsAnswerByKind Reply (says (replied id shown)) = ⊤
IsAnswerByKind LocateReply (says (located id shown)) = ⊤
IsAnswerByKind CloseConnection (ends peer_closed) = ⊤
IsAnswerByKind MessageError (ends peer_error) = ⊤
IsAnswerByKind Request (ends wrong_direction) = ⊤
IsAnswerByKind LocateRequest (ends wrong_direction) = ⊤
IsAnswerByKind CancelRequest (ends wrong_direction) = ⊤
IsAnswerByKind _ _ = ⊥
