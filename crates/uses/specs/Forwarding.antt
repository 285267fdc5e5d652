-- A call that is forwarded: the request that asks another server for it, and the outcome that its reply is.
use Rattle.std.specs.Prelude.{◌≡◌, ℕ, ◌==◌, ◌%◌, ◌<◌, ◌^◌, ◌||◌, Bool, true, List, [], ◌∷◌, length, Option, Some, None, Result, Ok, Err, if◌then◌else◌}
use Rattle.cdr_core.specs.Spelling.{IsClean}
use Rattle.giop_core.specs.declared.error.MessageFault.{MessageFault}
use Rattle.giop_core.specs.declared.header.MessageKind.TheVariants.{Request}
use Rattle.giop_core.specs.declared.header.Version.TheVariants.{V12}
use Rattle.giop_core.specs.declared.request.ReplyWish.TheVariants.{Full}
use Rattle.giop_core.specs.Content as content
use Rattle.giop_core.specs.Content.{Content, Rest, by_key}
use Rattle.giop_core.specs.Written.{behind_header, message_octets, octets_body, request_fields}
use Rattle.giop_frames.specs.declared.limits.Limits.{Limits}
use Rattle.giop_frames.specs.Fragments.{content_of}
use Rattle.giop_frames.specs.Streams.{Completed, messages_of}
use Rattle.ft_log.specs.declared.outcome.RawStatus.{RawStatus}
use Rattle.ft_log.specs.declared.outcome.RawStatus.TheVariants.{LocationForward, NoException, SystemException, UserException}
use Rattle.ft_log.specs.declared.system_exception.Completion.{Completion}
use Rattle.ft_log.specs.declared.system_exception.Completion.TheVariants.{Maybe, No, Yes}
use Rattle.ft_log.specs.declared.system_exception.SystemName.TheVariants.{ImpLimit, Unknown}
use Rattle.ft_log.specs.Performed.{Performed, raw, system}

-- CDR 9.3.1: whether a body can stand at a place divisible by 8 as it came: it stood at one, or has no octets
abbrev pub can_stand : Rest → Bool
can_stand body = length body.octets == 0 || body.place % 8 == 0

-- the request

-- GIOP 9.4.2: what stands after the header of a Request of 1.2 with this id for an operation at the object of a key, with a full
-- reply wished for and no contexts; its body are these octets, in their order
abbrev pub forwarded_after : ℕ → (key operation : List ℕ) → Rest → List ℕ
forwarded_after id key operation body = behind_header V12 Request body.order (request_fields V12 id Full (by_key key) operation []) (octets_body body.octets)

-- the whole request
abbrev pub forwarded_octets : ℕ → (key operation : List ℕ) → Rest → List ℕ
forwarded_octets id key operation body = message_octets V12 Request body.order (forwarded_after id key operation body)

-- it can be sent
pub record CanBeForwarded (id : ℕ) (key operation : List ℕ) (body : Rest) : Type 0 where
  pub stands : can_stand body ≡ true
  pub clean : IsClean operation
  pub counted : length body.octets < 2 ^ 32
  pub short : length (forwarded_after id key operation body) < 2 ^ 32

-- the reply

-- GIOP 9.4.3: the status with which an outcome keeps octets, by its number; LOCATION_FORWARD_PERM and NEEDS_ADDRESSING_MODE are
-- none, since only 1.2 has them
abbrev pub kept_status : ℕ → Option RawStatus
kept_status n = if n == 0 then Some NoException else (if n == 1 then Some UserException else (if n == 2 then Some SystemException else (if n == 3 then Some LocationForward else None)))

-- whether the operation was completed that a reply of the status answers; of a system exception its body would say it
abbrev pub completion_of : RawStatus → Completion
completion_of NoException = Yes
completion_of UserException = Yes
completion_of SystemException = Maybe
completion_of LocationForward = No

-- octets with a status are the outcome where they can stand in another reply
abbrev pub kept_outcome : RawStatus → Rest → Performed
kept_outcome status body = if can_stand body then raw status body.order body.octets else system ImpLimit 0 (completion_of status)

-- the outcome of a reply; one whose status can't be kept asks for another request, so nothing was done
abbrev pub outcome_of : Option RawStatus → Rest → Performed
outcome_of (Some status) body = kept_outcome status body
outcome_of None body = system ImpLimit 0 No

-- nobody can tell what came of a request: it may have been performed
abbrev pub untold : Performed
untold = system Unknown 0 Maybe

-- What is answered for the request of an id, by what the server behind said first: the outcome of its reply. Where the server
-- closes the connection before it replies it did not begin (GIOP 9.4.7), and nothing is answered.
abbrev pub told_by : ℕ → Option Content → Option Performed
told_by id (Some (content.reply other status contexts body)) = if other == id then Some (outcome_of (kept_status status) body) else Some untold
told_by id (Some content.close) = None
told_by id _ = Some untold

-- what a message says, if it is valid
abbrev pub said_in : Result Content MessageFault → Option Content
said_in (Ok m) = Some m
said_in (Err e) = None

abbrev pub first_of : List Completed → Option Content
first_of [] = None
first_of (m ∷ later) = said_in (content_of m.message.header m.message.octets)

-- the first message of a stream, if there is one
abbrev pub first_said : Limits → List ℕ → Option Content
first_said limits octets = first_of (messages_of limits octets)
