-- Frames to messages (GIOP 9.4.9). A message that is too long or at fault in itself is told of where that is known; what more
-- fragments of it come are passed over, and all other messages go on (own rule).
use Rattle.std.specs.Prelude.{◌≡◌, ℕ, ◌≤◌, ◌*◌, ◌+◌, ◌==◌, nat_lt, nat_le, min, ◌&&◌, ◌||◌, not, Bool, true, false, List, [], ◌∷◌, ◌++◌, length, drop, slice_index, Option, Some, None, Result, Ok, Err, if◌then◌else◌}
use Rattle.cdr_core.specs.declared.order.Order.{Order}
use Rattle.cdr_core.specs.Numbers.{number_of}
use Rattle.cdr_core.specs.declared.fault.Kind.TheVariants.{Short}
use Rattle.giop_core.specs.declared.error.MessageFault.{MessageFault}
use Rattle.giop_core.specs.declared.error.MessageFault.TheVariants.{Cdr}
use Rattle.giop_core.specs.declared.header.Header.{Header}
use Rattle.giop_core.specs.declared.header.MessageKind.{MessageKind}
use Rattle.giop_core.specs.declared.header.MessageKind.TheVariants.{Request, Reply, CancelRequest, LocateRequest, LocateReply, CloseConnection, MessageError, Fragment}
use Rattle.giop_core.specs.declared.header.Version.{Version}
use Rattle.giop_core.specs.Content.{Content}
use Rattle.giop_core.specs.Places.{Headed}
use Rattle.giop_core.specs.Rows.{has_id_first}
use Rattle.giop_frames.specs.declared.fault.StreamFault.{StreamFault}
use Rattle.giop_frames.specs.declared.fault.StreamFault.TheVariants.{Body, MixedOrder, StrayFragment, TooLarge, TooManyPartial, UnalignedFragment}
use Rattle.giop_frames.specs.declared.limits.Limits.{Limits}
use Rattle.giop_frames.specs.Fragments.{content_of, id_of, is_same_order, payload_of}
use Rattle.giop_frames.specs.Frames.{Frame, frame_size, is_unaligned}
use Rattle.giop_proxy.specs.declared.passes.keys.Key.{Key}
use Rattle.giop_proxy.specs.declared.passes.keys.Key.TheVariants.{Of11, Of12}
use Rattle.giop_proxy.specs.declared.passes.joining.Role.{Role}
use Rattle.giop_proxy.specs.declared.passes.joining.Role.TheVariants.{First, Next, Cancel, Alone}
use Rattle.giop_proxy.specs.Passing.{FramesStand, OnHeaderFault, Splitting, fault_of, frames_of, given, is_long, octets_held}

-- GIOP 9.4.9: what a frame is of a message that is cut; a CancelRequest drops what has come of its message (own rule)
abbrev pub role_in : MessageKind → Bool → Role
role_in Fragment more = Next
role_in CancelRequest more = Cancel
role_in _ true = First
role_in _ false = Alone

abbrev pub role_of : Header → Role
role_of h = role_in h.kind h.more

-- what a cut message is known by: in 1.2 its request id; in 1.1 a Fragment has none, and is one of the message that began last
abbrev pub key_in : Version → ℕ → Key
key_in v i = if has_id_first v then Of12 i else Of11

abbrev pub key_of : Frame → Key
key_of f = key_in f.header.version (id_of f)

-- whether two keys are one
abbrev pub is_key : Key → Key → Bool
is_key (Of12 i) (Of12 j) = i == j
is_key Of11 Of11 = true
is_key _ _ = false

-- what has come of a message: the header of its first frame, the octets after that, joined; and how it came: the place in the
-- stream where its first frame begins, and the places in the message where further frames go on with it
pub record Coming : Type 0 where
  pub header : Header
  pub octets : List ℕ
  pub begins : ℕ
  pub cuts : List ℕ

-- a frame, as what has come of its message
abbrev pub begun_by : ℕ → Frame → Coming
begun_by place f = record { header = f.header; octets = f.octets; begins = place; cuts = [] }

-- a Fragment appends its payload
abbrev pub continued_by : Frame → Coming → Coming
continued_by f m = record m { octets = m.octets ++ payload_of f; cuts = m.cuts ++ (12 + length m.octets) ∷ [] }

-- a message that has come whole is one frame, of which no more follow
abbrev pub ended : Coming → Coming
ended m = record m { header = record m.header { more = false; size = length m.octets } }

-- what is told of a message: that it is whole, or what its fault is, with what has come of it
pub record Told : Type 0 where
  pub message : Coming
  pub fault : Option StreamFault

abbrev pub at_fault : StreamFault → Coming → Told
at_fault e m = record { message = m; fault = Some e }

-- a message by what its octets say
abbrev pub on_content : Coming → Result Content MessageFault → Told
on_content m (Err e) = at_fault (Body e) m
on_content m (Ok x) = record { message = m; fault = None }

abbrev pub judged : Coming → Told
judged m = on_content m (content_of m.header m.octets)

-- a frame that is a message by itself
abbrev pub alone : Limits → Coming → Told
alone limits m = if is_long limits m.header then at_fault TooLarge m else judged m

-- a message under its key
pub record Entry : Type 0 where
  pub key : Key
  pub message : Coming

-- the message of a key among those of a list
abbrev pub part_in : List Entry → Key → Option Coming
part_in [] k = None
part_in (p ∷ ps) k = if is_key p.key k then Some p.message else part_in ps k

-- the others
abbrev pub without : Key → List Entry → List Entry
without k [] = []
without k (p ∷ ps) = if is_key p.key k then ps else p ∷ without k ps

-- whether the further fragments of a key are passed over
abbrev pub is_passed : Key → List Key → Bool
is_passed k [] = false
is_passed k (j ∷ js) = is_key j k || is_passed k js

-- they are not any more
abbrev pub forgotten : Key → List Key → List Key
forgotten k [] = []
forgotten k (j ∷ js) = if is_key j k then js else j ∷ forgotten k js

-- they are from now on, unless there are 1,024 of these (own rule)
abbrev pub added : Key → List Key → List Key
added k js = if nat_lt (length js) 1024 then js ++ k ∷ [] else js

-- what a frame leaves: the messages whose fragments have not all come, the keys of those whose further fragments are passed
-- over, and what is told
pub record Step : Type 0 where
  pub parts : List Entry
  pub passed : List Key
  pub told : Option Told

-- the fault of a first frame where n other messages are partial, if it has one
abbrev pub first_fault : Limits → ℕ → Header → Option StreamFault
first_fault limits n h =
    if is_long limits h then Some TooLarge else
    (if is_unaligned limits.cuts h then Some UnalignedFragment else (if nat_le limits.partials n then Some TooManyPartial else None))

-- a first frame begins the message of its key anew (own rule), or is told of
abbrev pub first_judged : ℕ → List Entry → List Key → Frame → Option StreamFault → Step
first_judged place parts passed f (Some e) = record { parts = parts; passed = added (key_of f) passed; told = Some (at_fault e (begun_by place f)) }
first_judged place parts passed f None = record { parts = parts ++ record { key = key_of f; message = begun_by place f } ∷ []; passed = passed; told = None }

unfoldable pub first_step : Limits → ℕ → List Entry → List Key → Frame → Step
first_step limits place parts passed f =
    first_judged place (without (key_of f) parts) (forgotten (key_of f) passed) f (first_fault limits (length (without (key_of f) parts)) f.header)

-- the fault of a Fragment with n octets of payload, if it has one; a message is cut at 16,384 places at most (own rule)
abbrev pub next_fault : Limits → Coming → Header → ℕ → Option StreamFault
next_fault limits m h n =
    if is_long limits h || nat_lt limits.message (12 + length m.octets + n) || nat_le 16384 (length m.cuts) then Some TooLarge else
    (if not (is_same_order m.header.order h.order) then Some MixedOrder else (if is_unaligned limits.cuts h then Some UnalignedFragment else None))

-- a Fragment goes on with its message, or ends it, or the message is told of
abbrev pub next_judged : List Entry → List Key → Frame → Coming → Option StreamFault → Step
next_judged parts passed f m (Some e) = record { parts = parts; passed = (if f.header.more then added (key_of f) passed else passed); told = Some (at_fault e m) }
next_judged parts passed f m None =
    if f.header.more then record { parts = parts ++ record { key = key_of f; message = continued_by f m } ∷ []; passed = passed; told = None } else
    record { parts = parts; passed = passed; told = Some (judged (ended (continued_by f m))) }

-- a Fragment whose key is that of a message, or of none
abbrev pub next_found : Limits → ℕ → List Entry → List Key → Frame → Option Coming → Step
next_found limits place parts passed f None = record { parts = parts; passed = passed; told = Some (at_fault StrayFragment (begun_by place f)) }
next_found limits place parts passed f (Some m) = next_judged (without (key_of f) parts) passed f m (next_fault limits m f.header (length (payload_of f)))

unfoldable pub next_step : Limits → ℕ → List Entry → List Key → Frame → Step
next_step limits place parts passed f =
    if is_passed (key_of f) passed then record { parts = parts; passed = (if f.header.more then passed else forgotten (key_of f) passed); told = None } else
    next_found limits place parts passed f (part_in parts (key_of f))

-- which frames must begin with a request id: that of a cut message of 1.2, and a CancelRequest
abbrev pub has_id : Role → Version → Bool
has_id Cancel v = true
has_id Alone v = false
has_id _ v = has_id_first v

-- what a frame leaves, by its role
abbrev pub step_as : Role → Limits → ℕ → List Entry → List Key → Frame → Step
step_as First limits place parts passed f = first_step limits place parts passed f
step_as Next limits place parts passed f = next_step limits place parts passed f
step_as Cancel limits place parts passed f = record { parts = without (Of12 (id_of f)) parts; passed = forgotten (Of12 (id_of f)) passed; told = Some (alone limits (begun_by place f)) }
step_as Alone limits place parts passed f = record { parts = parts; passed = passed; told = Some (alone limits (begun_by place f)) }

-- the octets end inside the request id, which is at offset 12
abbrev pub too_short : StreamFault
too_short = Body (Cdr (record { kind = Short; at = 12 }))

-- what a frame leaves that begins at a place
unfoldable pub step : Limits → ℕ → List Entry → List Key → Frame → Step
step limits place parts passed f =
    if has_id (role_of f.header) f.header.version && nat_lt (length f.octets) 4 then record { parts = parts; passed = passed; told = Some (at_fault too_short (begun_by place f)) } else
    step_as (role_of f.header) limits place parts passed f

-- the place behind a frame; those past 2 ^ 64 - 1 are told as that
abbrev pub behind : ℕ → Frame → ℕ
behind place f = min (place + frame_size f.header) 18446744073709551615

-- frames from a place on: all that is told, the place behind them, and the messages and keys that they leave
pub record Reading : Type 0 where
  pub told : List Told
  pub place : ℕ
  pub parts : List Entry
  pub passed : List Key

abbrev pub after_told : Option Told → Reading → Reading
after_told t r = record r { told = given t ++ r.told }

abbrev pub reading_from : Limits → ℕ → List Entry → List Key → List Frame → Reading
reading_from limits place parts passed [] = record { told = []; place = place; parts = parts; passed = passed }
reading_from limits place parts passed (f ∷ fs) =
    let s = step limits place parts passed f in after_told s.told (reading_from limits (behind place f) s.parts s.passed fs)

-- a stream as messages
unfoldable pub reading_of : Limits → List ℕ → Reading
reading_of limits s = reading_from limits 0 [] [] (frames_of limits s)

-- all that is told of a stream
abbrev pub told_of : Limits → List ℕ → List Told
told_of limits s = (reading_of limits s).told

-- what callers see of a reader of messages: its reader of frames, the place in the stream where the next frame begins, the
-- messages whose fragments have not all come, the keys of those whose further fragments are passed over, and what it lends
pub record Hearing : Type 0 where
  pub frames : Splitting
  pub place : ℕ
  pub parts : List Entry
  pub passed : List Key
  pub told : Option Told

-- it stands for the stream s
pub record StandsFor (a : Hearing) (s : List ℕ) : Type 0 where
  pub frames : FramesStand a.frames s
  pub place : a.place ≡ (reading_of a.frames.limits s).place
  pub parts : a.parts ≡ (reading_of a.frames.limits s).parts
  pub passed : a.passed ≡ (reading_of a.frames.limits s).passed

-- the fault of the header of a frame of a stream s with more octets, and nothing more is told
pub record Ends (limits : Limits) (s c : List ℕ) (e : StreamFault) : Type 0 where
  pub is : fault_of limits (s ++ c) ≡ Some e
  pub same : told_of limits (s ++ c) ≡ told_of limits s

-- an error is that an allocation failed, or the fault of the stream s with more octets
abbrev pub IsFault : Limits → List ℕ → List ℕ → StreamFault → Type 0
IsFault limits s c e = OnHeaderFault e (Ends limits s c e)

-- what is lent of what is told
abbrev pub header_told : Told → Header
header_told t = t.message.header

abbrev pub fault_told : Option Told → Option StreamFault
fault_told None = None
fault_told (Some t) = t.fault

abbrev pub octets_told : Option Told → List ℕ
octets_told None = []
octets_told (Some t) = t.message.octets

abbrev pub begins_told : Option Told → ℕ
begins_told None = 0
begins_told (Some t) = t.message.begins

abbrev pub cuts_told : Option Told → List ℕ
cuts_told None = []
cuts_told (Some t) = t.message.cuts

-- a message that is whole, by its fault
abbrev pub headed_by : Coming → Option StreamFault → Option Headed
headed_by m (Some e) = None
headed_by m None = Some (record { header = m.header; octets = m.octets })

-- the message that is told of, where it is whole
abbrev pub whole_told : Option Told → Option Headed
whole_told None = None
whole_told (Some t) = headed_by t.message t.fault

-- no message is longer than the limit
abbrev pub AreShort : Limits → List Entry → Type 0
AreShort limits [] = Unit {0}
AreShort limits (p ∷ ps) = (12 + length p.message.octets ≤ limits.message) × AreShort limits ps

-- messages whose fragments have not all come, within the limits
pub record AreWithin (limits : Limits) (ps : List Entry) : Type 0 where
  pub count : length ps ≤ limits.partials
  pub each : AreShort limits ps

-- how many octets they hold, the headers of their first frames among them
abbrev pub parts_held : List Entry → ℕ
parts_held [] = 0
parts_held (p ∷ ps) = (12 + length p.message.octets) + parts_held ps

-- how many octets what is told holds
abbrev pub told_held : Option Told → ℕ
told_held None = 0
told_held (Some t) = 12 + length t.message.octets

-- how many octets a reader of messages holds: of the frame that has not come, of what it lends, and of the messages whose
-- fragments have not all come
abbrev pub all_held : Hearing → ℕ
all_held a = octets_held a.frames.frame a.frames.pending + told_held a.told + parts_held a.parts

-- what it holds is bounded: the frame that has not come and what it lends are together within the limit, those messages are, and
-- with them all octets
pub record IsBounded (a : Hearing) : Type 0 where
  pub front : octets_held a.frames.frame a.frames.pending + told_held a.told ≤ a.frames.limits.message
  pub parts : AreWithin a.frames.limits a.parts
  pub all : all_held a ≤ (a.frames.limits.partials + 1) * a.frames.limits.message

-- where the request id stands among the octets after a header, where that is known (GIOP 9.4.2 to GIOP 9.4.9): first, or in a
-- Request and a Reply of 1.0 and 1.1 behind service contexts, of which there are to be none (own rule)
abbrev pub behind_contexts : Header → List ℕ → Option ℕ
behind_contexts h octets = if nat_lt (length octets) 4 || not (number_of h.order 4 octets == 0) then None else Some 4

abbrev pub id_place_in : MessageKind → Header → List ℕ → Option ℕ
id_place_in Request h octets = if has_id_first h.version then Some 0 else behind_contexts h octets
id_place_in Reply h octets = if has_id_first h.version then Some 0 else behind_contexts h octets
id_place_in CancelRequest h octets = Some 0
id_place_in LocateRequest h octets = Some 0
id_place_in LocateReply h octets = Some 0
id_place_in CloseConnection h octets = None
id_place_in MessageError h octets = None
id_place_in Fragment h octets = if has_id_first h.version then Some 0 else None

abbrev pub id_place : Header → List ℕ → Option ℕ
id_place h octets = id_place_in h.kind h octets

-- the request id, where it is known
abbrev pub id_at : Order → List ℕ → Option ℕ → Option ℕ
id_at order octets None = None
id_at order octets (Some n) = if nat_lt (length octets) (n + 4) then None else Some (number_of order 4 (drop n octets))

abbrev pub known_id : Header → List ℕ → Option ℕ
known_id h octets = id_at h.order octets (id_place h octets)

-- whether a message may wish for a reply: all but a Request in which the octet behind the id, the flags of the wish (GIOP 9.4.2),
-- is 0
abbrev pub wish_at : List ℕ → Option ℕ → Bool
wish_at octets None = true
wish_at octets (Some n) = nat_le (length octets) (n + 4) || not (slice_index octets (n + 4) == 0)

abbrev pub may_wish_as : MessageKind → Header → List ℕ → Bool
may_wish_as Request h octets = wish_at octets (id_place h octets)
may_wish_as _ h octets = true

abbrev pub may_wish : Header → List ℕ → Bool
may_wish h octets = may_wish_as h.kind h octets

-- what is known of what is told
abbrev pub id_told : Option Told → Option ℕ
id_told None = None
id_told (Some t) = known_id t.message.header t.message.octets

abbrev pub wish_told : Option Told → Bool
wish_told None = false
wish_told (Some t) = may_wish t.message.header t.message.octets

-- whether octets of a frame are still to come
abbrev pub is_amid : Splitting → Bool
is_amid v = nat_lt 0 v.over || nat_lt 0 (length v.pending)
