-- The laws, each over the definitions alone.
use Rattle.std.specs.Prelude.{◌≡◌, ℕ, ◌+◌, ◌^◌, ◌<◌, ℤ, FitsSigned, List, [], ◌++◌, length, Option, Some, None}
use Rattle.std.specs.Int.{w32}
use Rattle.std.specs.List.{AllByRecursion}
use Rattle.cdr_core.specs.declared.order.Order.{Order}
use Rattle.cdr_core.specs.Spelling.{IsClean}
use Rattle.cdr_core.specs.Value.{Values, no_values}
use Rattle.cdr_core.specs.Writing.{octets_of_all}
use Rattle.giop_core.specs.declared.header.Version.{Version}
use Rattle.giop_core.specs.declared.request.ReplyWish.{ReplyWish}
use Rattle.giop_core.specs.Content as content
use Rattle.giop_core.specs.Content.{Content, Rest, by_key}
use Rattle.giop_core.specs.Ft.{ft_in, present}
use Rattle.giop_core.specs.Written.{CanAsk, locate_statuses, reply_statuses}
use Rattle.giop_frames.specs.declared.limits.Limits.{Limits}
use Rattle.giop_frames.specs.Frames.{Frame}
use Rattle.giop_frames.specs.ReadAgain.{Completes}
use Rattle.giop_frames.specs.Streams.{messages_of}
use Rattle.giop_link.specs.Answering.{answer_of}
use Rattle.giop_link.specs.Hearing.{Ending, Sound, ending_as, heard_as, meaning_of, sound_of}
use Rattle.giop_link.specs.Listening.{Brings}
use Rattle.giop_link.specs.Messages.{Hears, IsAnswerByKind, IsByKind}
use Rattle.giop_link.specs.Outgoing.{CanGoOut, IsFront, Outgoing, course_to, ft_alone, meant, octets_in, octets_of_each, said_in}

-- Whoever hears, by what each message is to it.

module _ {Heard : Type 0} (meaning : Version → Content → Sound Heard) where
  -- What is heard are the messages before the first that ends the stream, and the stream ends by that message, or by its fault ..
  abbrev pub MessagesAreHeard : Type 0
  MessagesAreHeard = (limits : Limits) (s : List ℕ) → Hears (sound_of meaning) limits s (heard_as meaning limits s) (ending_as meaning limits s)

  -- .. and nothing else is heard, and it ends in no other way.
  abbrev pub NothingElseIsHeard : Type 0
  NothingElseIsHeard =
      (limits : Limits) (s : List ℕ) (xs : List Heard) (end : Option Ending) → Hears (sound_of meaning) limits s xs end → (xs ≡ heard_as meaning limits s) × (end ≡ ending_as meaning limits s)

  -- Octets that complete one message of a stream that goes on, as those do that are written for it, bring what it says: it is
  -- heard, or the stream ends by it.
  abbrev pub CompletedIsHeard : Type 0
  CompletedIsHeard = (limits : Limits) (s c : List ℕ) (m : Frame) → ending_as meaning limits s ≡ None → Completes limits s c m → Brings meaning limits s c (Some (sound_of meaning m))

  -- Where nothing has come, nothing is heard, and the stream has not ended.
  abbrev pub NothingIsSilent : Type 0
  NothingIsSilent = (limits : Limits) → (heard_as meaning limits [] ≡ []) × (ending_as meaning limits [] ≡ None)

  -- More octets bring more messages after those that were heard ..
  abbrev pub HearingGrows : Type 0
  HearingGrows = (limits : Limits) (s c : List ℕ) → (more : List Heard) × (heard_as meaning limits (s ++ c) ≡ heard_as meaning limits s ++ more)

  -- .. a stream that has ended stays so ..
  abbrev pub EndingsStay : Type 0
  EndingsStay = (limits : Limits) (s c : List ℕ) (e : Ending) → ending_as meaning limits s ≡ Some e → ending_as meaning limits (s ++ c) ≡ Some e

  -- .. and after its end nothing is heard.
  abbrev pub EndsAreSilent : Type 0
  EndsAreSilent = (limits : Limits) (s c : List ℕ) (e : Ending) → ending_as meaning limits s ≡ Some e → heard_as meaning limits (s ++ c) ≡ heard_as meaning limits s

-- The kind of each message says whether a server hears it, or how the stream ends by it ..
abbrev pub MeaningsAreByKind : Type 0
MeaningsAreByKind = (limits : Limits) (s : List ℕ) → AllByRecursion (λ m. IsByKind m.message.header.kind (meaning_of m.message)) (messages_of limits s)

-- .. and the same of a client.
abbrev pub AnswersAreByKind : Type 0
AnswersAreByKind = (limits : Limits) (s : List ℕ) → AllByRecursion (λ m. IsAnswerByKind m.message.header.kind (answer_of m.message)) (messages_of limits s)

-- What is written is heard.

module _ {Heard : Type 0} (meaning : Version → Content → Sound Heard) where
  -- Of messages that are written one after another a reader hears what they say, up to the first that ends the stream or is
  -- over the reader's limit ..
  abbrev pub WrittenIsHeard : Type 0
  WrittenIsHeard = (limits : Limits) (ms : List Outgoing) → AllByRecursion CanGoOut ms
      → (heard_as meaning limits (octets_of_each ms) ≡ (course_to meaning limits ms).heard) × (ending_as meaning limits (octets_of_each ms) ≡ (course_to meaning limits ms).ending)

  -- .. so it hears a front of what was meant.
  abbrev pub HeardIsMeant : Type 0
  HeardIsMeant = (limits : Limits) (ms : List Outgoing) → AllByRecursion CanGoOut ms → IsFront (heard_as meaning limits (octets_of_each ms)) (meant meaning ms)

-- Which messages can go out, in either byte order: a Request for an object by its key, with FT_REQUEST as its one context,
-- which it carries; where it is not too long ..
abbrev pub RequestsGoOut : Type 0
RequestsGoOut = (version : Version) (order : Order) (id : ℕ) (wish : ReplyWish) (key operation client_id : List ℕ) (retention_id : ℤ) (expiration : ℕ) (rest : Rest) (body : Values)
    → id < 2 ^ 32 → CanAsk version wish → IsClean operation → IsClean client_id → FitsSigned w32 retention_id → expiration < 2 ^ 64
    → length (octets_in version order (content.request id wish (by_key key) operation (ft_alone order client_id retention_id expiration) rest) body) < 2 ^ 32
    → CanGoOut (record { version = version; order = order; content = content.request id wish (by_key key) operation (ft_alone order client_id retention_id expiration) rest; body = body })
    × (ft_in (ft_alone order client_id retention_id expiration) ≡ present client_id retention_id expiration)

-- .. a CancelRequest ..
abbrev pub CancelsGoOut : Type 0
CancelsGoOut = (version : Version) (order : Order) (id : ℕ) (body : Values) → id < 2 ^ 32 → CanGoOut (record { version = version; order = order; content = content.cancel id; body = body })

-- .. a Reply without contexts, whose body is not too long and stands at the place 24 in every version ..
abbrev pub RepliesGoOut : Type 0
RepliesGoOut = (version : Version) (order : Order) (id status : ℕ) (rest : Rest) (body : Values)
    → id < 2 ^ 32 → status < reply_statuses version → 12 + length (octets_of_all order body 24) < 2 ^ 32
    → CanGoOut (record { version = version; order = order; content = content.reply id status [] rest; body = body })
    × (said_in version order (content.reply id status [] rest) body ≡ content.reply id status [] (record { order = order; place = 24; octets = octets_of_all order body 24 }))

-- .. a LocateReply without a body, which would stand at the place 20 ..
abbrev pub LocateRepliesGoOut : Type 0
LocateRepliesGoOut = (version : Version) (order : Order) (id status : ℕ) (rest : Rest) → id < 2 ^ 32 → status < locate_statuses version
    → CanGoOut (record { version = version; order = order; content = content.locate_reply id status rest; body = no_values })
    × (said_in version order (content.locate_reply id status rest) no_values ≡ content.locate_reply id status (record { order = order; place = 20; octets = [] }))

-- .. CloseConnection and MessageError.
abbrev pub FarewellsGoOut : Type 0
FarewellsGoOut = (version : Version) (order : Order) (body : Values) → CanGoOut (record { version = version; order = order; content = content.close; body = body }) × CanGoOut (record { version = version; order = order; content = content.error; body = body })
