-- Words of private functions, and how the fields of a listener and of a link are seen (`listened`, `linked`, `client_linked`)
-- and what is true of them. No contract of a public call cites them, and nobody has to read them to know what is promised.
use Rattle.std.specs.Prelude.{◌≡◌, ℕ, ◌≤◌, ◌++◌, Bool, true, false, List, [], length, Option, Some, None}
use Rattle.giop_core.specs.declared.header.Version.{Version}
use Rattle.giop_core.specs.Content.{Content}
use Rattle.giop_core.specs.declared.error.WriteError.{WriteError}
use Rattle.giop_core.specs.declared.error.WriteError.TheVariants as write
use Rattle.giop_frames.specs.declared.limits.Limits.{Limits}
use Rattle.giop_frames.specs.Frames.{Frame}
use Rattle.giop_frames.specs.Standing.{Standing, StandsFor}
use Rattle.giop_frames.specs.Streams.{Entry}
use Rattle.giop_link.specs.declared.listener.PeerEnd.{PeerEnd}
use Rattle.giop_link.specs.declared.listener.State.{State}
use Rattle.giop_link.specs.declared.listener.State.TheVariants as state
use Rattle.giop_link.specs.declared.awaited.Outstanding.{Outstanding}
use Rattle.giop_link.specs.declared.awaited.Wanted.TheVariants as wanted
use Rattle.giop_link.specs.declared.error.SendError.{SendError}
use Rattle.giop_link.specs.declared.error.SendError.TheVariants as send
use Rattle.giop_link.specs.Hearing.{Sound, ends, meaning_in, says}
use Rattle.giop_link.specs.Listening.{Brings, Listened, lent_by, spoken_by, told_with}
use Rattle.giop_link.specs.Linking.{Linked}
use Rattle.giop_link.specs.Answering.{Answer, answer_to, located, replied}
use Rattle.giop_link.specs.Ids.{Ids}
use Rattle.giop_link.specs.ClientLinking.{ClientLinked, Delivered, Terms, delivered_as, is_awaited, left_after}

-- octets t after the stream s: what they bring, and what is left
pub record IsHeard {Heard : Type 0} (meaning : Version → Content → Sound Heard) (limits : Limits) (s t : List ℕ) (told : Option (Sound Heard)) (a : Standing) : Type 0 where
  pub brings : Brings meaning limits s t told
  pub stands : StandsFor a (s ++ t)

-- an assembler lends no message but one that is heard
abbrev pub LendsHeard : {Heard : Type 0} → (Version → Content → Sound Heard) → Standing → Type 0
LendsHeard meaning a = spoken_by meaning a.message ≡ None → a.message ≡ None

-- whether a listener in a state is closed, what it holds, the message that it lends, and the end that the peer made
abbrev pub is_shut : State → Bool
is_shut (state.Live a) = false
is_shut (state.Parting p) = true
is_shut state.Closed = true

abbrev pub pending_in : State → List ℕ
pending_in (state.Live a) = a.pending
pending_in (state.Parting p) = []
pending_in state.Closed = []

abbrev pub parts_in : State → List Entry
parts_in (state.Live a) = a.parts
parts_in (state.Parting p) = []
parts_in state.Closed = []

abbrev pub message_in : State → Option Frame
message_in (state.Live a) = a.message
message_in (state.Parting p) = None
message_in state.Closed = None

abbrev pub end_by : State → Option PeerEnd
end_by (state.Live a) = None
end_by (state.Parting p) = Some p
end_by state.Closed = None

-- a listener, by its fields
abbrev pub listened : Limits → State → Listened
listened limits s = record { limits = limits; is_closed = is_shut s; pending = pending_in s; parts = parts_in s; message = message_in s; end = end_by s }

-- what is true of its fields
abbrev pub IsSound : {Heard : Type 0} → (Version → Content → Sound Heard) → Limits → State → Type 0
IsSound meaning limits (state.Live a) = (a.limits ≡ limits) × (a.failed ≡ false) × LendsHeard meaning a
IsSound meaning limits (state.Parting p) = Unit {0}
IsSound meaning limits state.Closed = Unit {0}

-- a server's link, by its listener
abbrev pub linked : Listened → Linked
linked l = record { limits = l.limits; is_closed = l.is_closed; pending = l.pending; parts = l.parts; inbound = lent_by meaning_in l }

-- a client's link

-- the id that it answers, and the kind of answer that it is
abbrev pub answered_one : Sound Answer → Option Outstanding
answered_one (says (replied id shown)) = Some (record { id = id; wanted = wanted.Reply })
answered_one (says (located id shown)) = Some (record { id = id; wanted = wanted.Location })
answered_one (ends e) = None

-- whether a message is an awaited answer, and what is outstanding after it
abbrev pub settles : Option (Sound Answer) → List Outstanding → Bool
settles (Some (says a)) os = is_awaited a os
settles _ os = false

abbrev pub settled_left : Option (Sound Answer) → List Outstanding → List Outstanding
settled_left (Some (says a)) os = left_after a os
settled_left _ os = os

-- what is delivered of an answer that was awaited
abbrev pub told_of : Option (Sound Answer) → Option (Sound Delivered)
told_of (Some (says a)) = Some (says (delivered_as a))
told_of _ = None

abbrev pub told_if : Bool → Option Frame → Option (Sound Delivered)
told_if true m = told_of (spoken_by answer_to m)
told_if false m = None

-- what is delivered
abbrev pub told_in : Bool → Listened → Option (Sound Delivered)
told_in delivers l = told_with l.end (told_if delivers l.message)

-- a client's link, by its listener and its other fields
abbrev pub client_linked : Terms → Ids → Bool → Listened → ClientLinked
client_linked terms ids delivers l = record { terms = terms; ids = ids; is_closed = l.is_closed; pending = l.pending; parts = l.parts; message = l.message; delivery = told_in delivers l }

-- what is true of its fields: no more ids wait than may, and none where it has ended
pub record IsClientSound (most : ℕ) (os : List Outstanding) (l : Listened) : Type 0 where
  pub few : length os ≤ most
  pub none : l.is_closed ≡ true → os ≡ []

-- an error of a writer is one of sending
abbrev pub send_error_of : WriteError → SendError
send_error_of write.TooLong = send.TooLong
send_error_of write.Memory = send.Memory
