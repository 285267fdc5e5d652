-- Frames to messages (GIOP 9.4.9): what has come of a cut message, looking back from a place over all frames before it, the
-- latest first. A message is partial while its fragments have not all come.
use Rattle.std.specs.Prelude.{ℕ, ◌+◌, ◌-◌, ◌==◌, nat_lt, nat_le, ◌&&◌, not, Bool, true, false, List, [], ◌∷◌, ◌++◌, length, drop, Option, Some, None, is_some, Result, Ok, Err, if◌then◌else◌}
use Rattle.std.specs.Option.{option_map}
use Rattle.cdr_core.specs.declared.fault.Kind.TheVariants.{Short}
use Rattle.cdr_core.specs.declared.order.Order.{Order}
use Rattle.cdr_core.specs.declared.order.Order.TheVariants.{Big, Little}
use Rattle.cdr_core.specs.Numbers.{number_of}
use Rattle.giop_core.specs.declared.error.MessageFault.{MessageFault}
use Rattle.giop_core.specs.declared.error.MessageFault.TheVariants.{Cdr}
use Rattle.giop_core.specs.declared.header.Header.{Header}
use Rattle.giop_core.specs.declared.header.MessageKind.{MessageKind}
use Rattle.giop_core.specs.declared.header.MessageKind.TheVariants.{CancelRequest, Fragment}
use Rattle.giop_core.specs.declared.header.Version.{Version}
use Rattle.giop_core.specs.Begun.{request_id_in}
use Rattle.giop_core.specs.Content.{Content}
use Rattle.giop_core.specs.Headers.{can_be_cut}
use Rattle.giop_core.specs.Messages.{message_of}
use Rattle.giop_core.specs.Rows.{has_id_first}
use Rattle.giop_frames.specs.declared.fault.StreamFault.{StreamFault}
use Rattle.giop_frames.specs.declared.fault.StreamFault.TheVariants.{Body, MixedOrder, StrayFragment, TooLarge, TooManyPartial, TwiceStarted}
use Rattle.giop_frames.specs.declared.limits.Limits.{Limits}
use Rattle.giop_frames.specs.declared.partial.Key.{Key}
use Rattle.giop_frames.specs.declared.partial.Key.TheVariants.{Of11, Of12}
use Rattle.giop_frames.specs.declared.reassembly.Role.{Role}
use Rattle.giop_frames.specs.declared.reassembly.Role.TheVariants.{Opens, Carries, Ends, Drops, Uncut, Apart}
use Rattle.giop_frames.specs.Frames.{Frame, id_length}

-- GIOP 9.4.9: the role of a kind of message in a version, by whether more fragments follow, which a header says only where
-- the version lets the kind be cut. Own rules: a CancelRequest of any version drops what has come of its message; and a whole
-- message that could have been cut is held against the partial ones where these are known by their request ids.
abbrev pub role_in : Version → MessageKind → Bool → Role
role_in _ Fragment true = Carries
role_in _ Fragment false = Ends
role_in _ CancelRequest more = Drops
role_in _ _ true = Opens
role_in version kind false = if has_id_first version && can_be_cut version kind then Uncut else Apart

-- what a frame under a header is to the partial messages
abbrev pub role_of : Header → Role
role_of h = role_in h.version h.kind h.more

-- GIOP 9.4.9: in 1.2 the request id is in the first four octets after the header; so it is in a CancelRequest of any version
abbrev pub id_of : Frame → ℕ
id_of f = number_of f.header.order 4 f.octets

-- what a partial message is known by: in 1.2 its request id; in 1.1 a Fragment has none, and one message is partial at most
abbrev pub key_in : Version → ℕ → Key
key_in v i = if has_id_first v then Of12 i else Of11

-- the key of the message that a frame is a part of
abbrev pub key_of : Frame → Key
key_of f = key_in f.header.version (id_of f)

-- whether two keys are one
abbrev pub is_key : Key → Key → Bool
is_key (Of12 i) (Of12 j) = i == j
is_key Of11 Of11 = true
is_key _ _ = false

-- the payload of a Fragment
abbrev pub payload_of : Frame → List ℕ
payload_of f = drop (id_length f.header.version) f.octets

-- a partial message: the header of its first frame, and the octets so far after that
pub record Partial : Type 0 where
  pub header : Header
  pub octets : List ℕ

-- a first frame starts one
abbrev pub opened_by : Frame → Partial
opened_by f = record { header = f.header; octets = f.octets }

-- a Fragment appends its payload
abbrev pub continued_by : Frame → Partial → Partial
continued_by f p = record p { octets = p.octets ++ payload_of f }

-- whether there is a number, and it is this one
abbrev pub is_number : ℕ → Option ℕ → Bool
is_number i None = false
is_number i (Some j) = i == j

-- whether a CancelRequest of a request id is for a partial message: in 1.1 the octets so far must spell its request id
-- (own rule)
abbrev pub cancels : ℕ → Key → Partial → Bool
cancels i (Of12 j) p = i == j
cancels i Of11 p = is_number i (request_id_in p.header.order p.octets)

-- whether there is a partial message for it
abbrev pub is_cancelled : ℕ → Key → Option Partial → Bool
is_cancelled i k None = false
is_cancelled i k (Some p) = cancels i k p

-- the partial message of a key after one more frame
abbrev pub after_role : Role → Frame → Key → Option Partial → Option Partial
after_role Opens f k before = if is_key (key_of f) k then Some (opened_by f) else before
after_role Carries f k before = if is_key (key_of f) k then option_map (continued_by f) before else before
after_role Ends f k before = if is_key (key_of f) k then None else before
after_role Drops f k before = if is_cancelled (id_of f) k before then None else before
after_role Uncut f k before = before
after_role Apart f k before = before

-- the partial message of a key after these frames, the latest first: started, and neither ended nor cancelled since
abbrev pub partial_of : List Frame → Key → Option Partial
partial_of [] k = None
partial_of (f ∷ earlier) k = after_role (role_of f.header) f k (partial_of earlier k)

-- one less, if so
abbrev pub less_if : Bool → ℕ → ℕ
less_if true n = n - 1
less_if false n = n

-- one more for each first frame, one less for each partial message that a frame ends or cancels
abbrev pub partials_after : Role → Frame → (Key → Option Partial) → ℕ → ℕ
partials_after Opens f before n = n + 1
partials_after Ends f before n = less_if (is_some (before (key_of f))) n
partials_after Drops f before n = less_if (is_cancelled (id_of f) Of11 (before Of11)) (less_if (is_some (before (Of12 (id_of f)))) n)
partials_after _ f before n = n

-- how many messages are partial after these frames
abbrev pub partials_in : List Frame → ℕ
partials_in [] = 0
partials_in (f ∷ earlier) = partials_after (role_of f.header) f (partial_of earlier) (partials_in earlier)

-- what a whole frame is judged to be: a fault, part of a message, or the end of a message, which is given joined
pub data Verdict : Type 0 where
  Bad : StreamFault → Verdict
  Quiet : Verdict
  Done : Frame → Verdict

-- what the octets after a header say
abbrev pub content_of : Header → List ℕ → Result Content MessageFault
content_of h octets = message_of h.version h.kind h.order octets

-- a frame by what its octets say
abbrev pub on_content : Frame → Result Content MessageFault → Verdict
on_content f (Err e) = Bad (Body e)
on_content f (Ok m) = Done f

-- a message that is whole, or joined
abbrev pub judged_whole : Frame → Verdict
judged_whole f = on_content f (content_of f.header f.octets)

-- a partial message and its last Fragment, under the header of the first frame with the bit clear and the whole size
abbrev pub joined : Partial → Frame → Frame
joined p f = record { header = record p.header { more = false; size = length (p.octets ++ payload_of f) }; octets = p.octets ++ payload_of f }

-- whether two byte orders are one
abbrev pub is_same_order : Order → Order → Bool
is_same_order Big Big = true
is_same_order Little Little = true
is_same_order _ _ = false

-- the partial message that a Fragment can be joined to; own rule: first its byte order is judged, and then
-- the size of both together
abbrev pub joinable : Limits → Frame → Option Partial → Result Partial StreamFault
joinable limits f None = Err StrayFragment
joinable limits f (Some p) =
    if not (is_same_order p.header.order f.header.order) then Err MixedOrder else
    (if nat_lt limits.message (12 + length (p.octets ++ payload_of f)) then Err TooLarge else Ok p)

-- a Fragment with more to come, by what it can be joined to
abbrev pub judged_carried : Result Partial StreamFault → Verdict
judged_carried (Err e) = Bad e
judged_carried (Ok p) = Quiet

-- the last Fragment, by what it can be joined to
abbrev pub judged_ended : Frame → Result Partial StreamFault → Verdict
judged_ended f (Err e) = Bad e
judged_ended f (Ok p) = judged_whole (joined p f)

-- the judgement of a frame by its role, the partial message of its key, and how many are partial. Own rules:
-- no message starts under the key of a partial one, no more are partial than the limit, and both are
-- judged before what a message says
unfoldable pub judged_as : Role → Limits → Option Partial → ℕ → Frame → Verdict
judged_as Opens limits before n f = if is_some before then Bad TwiceStarted else (if nat_le limits.partials n then Bad TooManyPartial else Quiet)
judged_as Carries limits before n f = judged_carried (joinable limits f before)
judged_as Ends limits before n f = judged_ended f (joinable limits f before)
judged_as Drops limits before n f = judged_whole f
judged_as Uncut limits before n f = if is_some before then Bad TwiceStarted else judged_whole f
judged_as Apart limits before n f = judged_whole f

-- which frames must begin with a request id, which is judged before what they are (own rule)
abbrev pub has_id : Role → Version → Bool
has_id Drops v = true
has_id Apart v = false
has_id _ v = has_id_first v

-- the octets end inside the request id, which is at offset 12
abbrev pub too_short : Verdict
too_short = Bad (Body (Cdr (record { kind = Short; at = 12 })))

-- what may come while a message of 1.1 is partial: its Fragments, and CancelRequests; own rule
abbrev pub may_come : Role → Version → Bool
may_come Drops v = true
may_come Carries v = not (has_id_first v)
may_come Ends v = not (has_id_first v)
may_come _ v = false

-- the judgement of a whole frame, by the partial message of 1.1, if there is one, and that of the frame's key, and how many
-- are partial
unfoldable pub judged_by : Limits → Option Partial → Option Partial → ℕ → Frame → Verdict
judged_by limits early before n f =
    if not (may_come (role_of f.header) f.header.version) && is_some early then Bad TwiceStarted else
    (if has_id (role_of f.header) f.header.version && nat_lt (length f.octets) 4 then too_short else judged_as (role_of f.header) limits before n f)

-- the judgement of a whole frame after these frames
abbrev pub judged : Limits → List Frame → Frame → Verdict
judged limits earlier f = judged_by limits (partial_of earlier Of11) (partial_of earlier (key_of f)) (partials_in earlier) f
