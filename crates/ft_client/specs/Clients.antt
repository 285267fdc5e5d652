-- A client: its pending calls, its link and its completions; what can happen to it, and what it is and writes after that.
use Rattle.std.specs.Prelude.{ℕ, suc, ◌==◌, ◌&&◌, ◌||◌, nat_le, nat_lt, not, ℤ, pos, Bool, true, false, if◌then◌else◌, List, [], ◌∷◌, ◌++◌, drop, length, take, Option, Some, None, is_some, Ok, bytes_eq, codes}
use Rattle.std.specs.Ordering.{int_eq}
use Rattle.cdr_core.specs.Form.{enumeration}
use Rattle.cdr_core.specs.Parts.{text, ulong}
use Rattle.cdr_core.specs.Reading.{Read, value_at}
use Rattle.cdr_core.specs.Value as value
use Rattle.cdr_core.specs.Value.{Value}
use Rattle.cdr_core.specs.declared.order.Order.{Order}
use Rattle.giop_core.specs.Content.{Rest}
use Rattle.giop_core.specs.Statuses.{reply_status_of}
use Rattle.giop_core.specs.declared.header.Version.{Version}
use Rattle.giop_core.specs.declared.reply.ReplyStatus.{ReplyStatus}
use Rattle.giop_core.specs.declared.reply.ReplyStatus.TheVariants.{LocationForward, LocationForwardPerm, NeedsAddressingMode, NoException, SystemException, UserException}
use Rattle.giop_frames.specs.declared.limits.Limits.{Limits}
use Rattle.giop_link.specs.Hearing.{Ending, Hearing, news}
use Rattle.ft_client.specs.Messages.{Answer, Asked, Call, Said, Shown, Transmission, Withdrawn, has_no_ft, is_oneway, keeps_place, located, replied, request_behind, version_in, wish_of}

-- How a call ends: by a reply with its body, by one that needs another addressing, by being sent where it wishes for no reply, by
-- its expiration, or by its caller.
pub data Ended : Type 0 where
  Told : ReplyStatus → Rest → Ended
  NeedsAddressing : Ended
  Sent : Ended
  Expired : Ended
  Cancelled : Ended

-- GIOP 9.4.3: by the status of its reply. LOCATION_FORWARD_PERM ends a call as LOCATION_FORWARD does, and
-- NEEDS_ADDRESSING_MODE without a body. Each reply that is heard has a status.
abbrev pub ended_as : Option ReplyStatus → Rest → Ended
ended_as (Some NoException) body = Told NoException body
ended_as (Some UserException) body = Told UserException body
ended_as (Some LocationForward) body = Told LocationForward body
ended_as (Some LocationForwardPerm) body = Told LocationForward body
ended_as (Some NeedsAddressingMode) body = NeedsAddressing
ended_as _ body = Told SystemException body

abbrev pub ended_by : Shown → Ended
ended_by shown = ended_as (reply_status_of shown.status) shown.body

-- a completion status that was read, other than COMPLETED_YES, which is 0
abbrev pub is_incomplete : Read Value → Bool
is_incomplete (Ok (value.enumeration done, place, rest)) = not (done == 0)
is_incomplete _ = false

-- .. behind a minor code
abbrev pub has_incomplete : Order → Read Value → Bool
has_incomplete order (Ok (minor, place, rest)) = is_incomplete (value_at (enumeration 3) order place rest)
has_incomplete order _ = false

-- .. behind the repository id of TRANSIENT
abbrev pub is_transient_in : Order → Read Value → Bool
is_transient_in order (Ok (value.string id, place, rest)) = bytes_eq id (codes "IDL:omg.org/CORBA/TRANSIENT:1.0") && has_incomplete order (value_at ulong order place rest)
is_transient_in order _ = false

-- GIOP 9.4.3.2: the body of a system exception is its repository id, a minor code and a completion status. CORBA 3.3 Part 1, A.3:
-- TRANSIENT asks for another try, whatever its minor code; not so where the operation was completed (FT 23.2).
abbrev pub is_transient : Rest → Bool
is_transient body = is_transient_in body.order (value_at text body.order body.place body.octets)

abbrev pub asks_again : Option ReplyStatus → Rest → Bool
asks_again (Some SystemException) body = is_transient body
asks_again _ body = false

-- GIOP 9.4.3.2: the body of a reply that forwards is the reference to which
abbrev pub led_as : Option ReplyStatus → Rest → Option Rest
led_as (Some LocationForward) body = Some body
led_as (Some LocationForwardPerm) body = Some body
led_as _ body = None

abbrev pub led_by : Shown → Option Rest
led_by shown = led_as (reply_status_of shown.status) shown.body

-- a call that has not ended, its number, the object key under which it is asked for, the request id of its transmission on the
-- present link, if it was sent there, and the reference to which it is led, if it is led elsewhere
pub record Pending : Type 0 where
  pub id : ℕ
  pub call : Call
  pub at : List ℕ
  pub sent : Option ℕ
  pub led : Option Rest

-- one that begins: it is asked for under the call's own object key
abbrev pub begun : ℕ → Call → Option ℕ → Pending
begun id call sent = record { id = id; call = call; at = call.object_key; sent = sent; led = None }

-- a link: how many request ids it has given, and all octets that came on it
pub record Linked : Type 0 where
  pub given : ℕ
  pub received : List ℕ

-- a client: its id, the version of its messages, the limits of its links, the last number that it gave a call, its pending
-- calls, its link, if it is connected, the completions that were not taken yet, by the calls' numbers, and whether TRANSIENT
-- leaves a call pending, and a forward
pub record Client : Type 0 where
  pub client_id : List ℕ
  pub version : Version
  pub limits : Limits
  pub last : ℕ
  pub pending : List Pending
  pub link : Option Linked
  pub completions : List (ℕ × Ended)
  pub keeps_transient : Bool
  pub keeps_forwards : Bool

-- one that has made no call
abbrev pub new_client : List ℕ → Version → Limits → Client
new_client client_id version limits = record {
  client_id = client_id;
  version = version;
  limits = limits;
  last = 0;
  pending = [];
  link = None;
  completions = [];
  keeps_transient = false;
  keeps_forwards = false;
}

-- what can happen to a client: a call at a moment; a call of before at a moment, under its number; a number up to which calls
-- of before were numbered; whether TRANSIENT leaves a call pending from now on; whether a forward does; the number of a call that is
-- led elsewhere, and the object key under which it is asked for from now on; a connection at a moment; a moment at which what
-- is due is sent again; octets that come, the loss of the connection, a call's number that is cancelled, a moment, and that the
-- next completion is taken
pub data Happening : Type 0 where
  Called : (now : ℕ) → Call → Happening
  Resumed : (now id : ℕ) → Call → Happening
  Skipped : (id : ℕ) → Happening
  Kept : (keeps : Bool) → Happening
  KeptForwards : (keeps : Bool) → Happening
  Redirected : (id : ℤ) → (key : List ℕ) → Happening
  Joined : (now : ℕ) → Happening
  Resent : (now : ℕ) → Happening
  Fed : List ℕ → Happening
  Parted : Happening
  Recalled : (id : ℤ) → Happening
  Ticked : (now : ℕ) → Happening
  Taken : Happening

-- as a client of this version and id sends it under an object key
abbrev pub transmission_to : Version → List ℕ → ℕ → ℕ → List ℕ → Call → Transmission
transmission_to version client_id id request_id key call = record {
  version = version_in version call.form;
  client_id = client_id;
  retention_id = id;
  request_id = request_id;
  at = key;
  call = call;
}

-- .. and under its own
abbrev pub transmission : Version → List ℕ → ℕ → ℕ → Call → Transmission
transmission version client_id id request_id call = transmission_to version client_id id request_id call.object_key call

-- GIOP 9.4.1: its Request under a number is not too long for a message size. It is as long under each request id.
abbrev pub fits : ℕ → Client → Call → Bool
fits id m call = nat_lt (length (request_behind (transmission m.version m.client_id id 1 call))) 4294967296

-- its body stands at a place that keeps its alignment
abbrev pub stands_in : ℕ → Client → Call → Bool
stands_in id m call = keeps_place (transmission m.version m.client_id id 1 call)

-- A call is taken where it brings no FT_REQUEST, it isn't past its expiration, there are numbers left (FT 23.2.7: a long), fewer than
-- 64 calls are pending (own rule), its body stands as it came, and it fits.
abbrev pub is_taken : ℕ → Call → Client → Bool
is_taken now call m = has_no_ft call.form && (nat_le now call.expiration && (nat_lt m.last 2147483647 && (nat_lt (length m.pending) 64 && (stands_in (suc m.last) m call && fits (suc m.last) m call))))

-- A call of before is taken up again where it brings no FT_REQUEST, its number is greater than each that was given or taken up
-- (own rule) and is a long, it isn't past its expiration, fewer than 64 calls are pending, its body stands as it came, and it fits.
abbrev pub is_resumed : ℕ → ℕ → Call → Client → Bool
is_resumed now id call m = has_no_ft call.form && ((nat_lt m.last id && nat_lt id 2147483648) && (nat_le now call.expiration && (nat_lt (length m.pending) 64 && (stands_in id m call && fits id m call))))

-- with its number, and sent on a link: it has ended where it wishes for no reply, and is pending where it wishes for one
abbrev pub placed_on : Bool → ℕ → Call → Client → Linked → Client
placed_on true id call m l = record m { last = id; completions = m.completions ++ (id, Sent) ∷ []; link = Some (record l { given = suc l.given }) }
placed_on false id call m l = record m { last = id; pending = m.pending ++ begun id call (Some (suc l.given)) ∷ []; link = Some (record l { given = suc l.given }) }

-- with its number, and sent where there is a link
abbrev pub placed : ℕ → Call → Client → Option Linked → Client
placed id call m None = record m { last = id; pending = m.pending ++ begun id call None ∷ []; link = None }
placed id call m (Some l) = placed_on (is_oneway (wish_of call.form)) id call m l

abbrev pub says_placed : ℕ → Call → Client → Option Linked → List Said
says_placed id call m None = []
says_placed id call m (Some l) = Asked (transmission m.version m.client_id id (suc l.given) call) ∷ []

-- numbers up to one count as given, where it is greater than the last and a long
abbrev pub skipped : ℕ → Client → Client
skipped id m = if nat_lt m.last id && nat_lt id 2147483648 then record m { last = id } else m

abbrev pub unsent : List Pending → List Pending
unsent [] = []
unsent (p ∷ ps) = record p { sent = None } ∷ unsent ps

-- the client without its link: what is pending stays so
abbrev pub parted : Client → Client
parted m = record m { pending = unsent m.pending; link = None }

-- A call is due on a link that has given n ids where it was not sent on it, it is not led elsewhere, it isn't past its expiration, and
-- fewer than half of all ids were given (own rule), so that there is one left for each call that is sent at once.
abbrev pub is_due : ℕ → ℕ → Pending → Bool
is_due now n p = not (is_some p.sent) && (not (is_some p.led) && (nat_le now p.call.expiration && nat_lt n 2147483648))

-- the pending calls on a link that has given n ids: each that is due is sent, in order
abbrev pub resent : ℕ → ℕ → List Pending → List Pending
resent now n [] = []
resent now n (p ∷ ps) = if is_due now n p then record p { sent = Some (suc n) } ∷ resent now (suc n) ps else p ∷ resent now n ps

-- how many ids the link has given then
abbrev pub ids_after : ℕ → ℕ → List Pending → ℕ
ids_after now n [] = n
ids_after now n (p ∷ ps) = if is_due now n p then ids_after now (suc n) ps else ids_after now n ps

-- the client with a link, where what is due has been sent
abbrev pub resent_on : ℕ → Client → Linked → Client
resent_on now m l = record m { pending = resent now l.given m.pending; link = Some (record l { given = ids_after now l.given m.pending }) }

-- on a new link
abbrev pub joined : ℕ → Client → Client
joined now m = resent_on now (parted m) (record { given = 0; received = [] })

abbrev pub says_again : Version → List ℕ → ℕ → ℕ → List Pending → List Said
says_again version client_id now n [] = []
says_again version client_id now n (p ∷ ps) =
    if is_due now n p then Asked (transmission_to version client_id p.id (suc n) p.at p.call) ∷ says_again version client_id now (suc n) ps else says_again version client_id now n ps

abbrev pub says_resent : ℕ → Client → Option Linked → List Said
says_resent now m None = []
says_resent now m (Some l) = says_again m.version m.client_id now l.given m.pending

-- the pending calls that stay by a test, and the others, which end so
abbrev pub staying : (Pending → Bool) → List Pending → List Pending
staying stays [] = []
staying stays (p ∷ ps) = if stays p then p ∷ staying stays ps else staying stays ps

abbrev pub leaving : (Pending → Bool) → Ended → List Pending → List (ℕ × Ended)
leaving stays ended [] = []
leaving stays ended (p ∷ ps) = if stays p then leaving stays ended ps else (p.id, ended) ∷ leaving stays ended ps

-- a call that wishes for no reply ends when it is sent
abbrev pub is_unsettled : Pending → Bool
is_unsettled p = not (is_oneway (wish_of p.call.form) && is_some p.sent)

-- the client after that
abbrev pub sent_off : Client → Client
sent_off m = record m { pending = staying is_unsettled m.pending; completions = m.completions ++ leaving is_unsettled Sent m.pending }

-- what is due is sent on the present link, if there is one
abbrev pub resent_if : ℕ → Client → Option Linked → Client
resent_if now m None = m
resent_if now m (Some l) = sent_off (resent_on now m l)

-- the pending calls without the first of a number
abbrev pub without : ℕ → List Pending → List Pending
without id [] = []
without id (p ∷ ps) = if p.id == id then ps else p ∷ without id ps

abbrev pub completed : ℕ → Ended → Client → Client
completed id ended m = record m { pending = without id m.pending; completions = m.completions ++ (id, ended) ∷ [] }

abbrev pub is_sent_as : ℕ → Option ℕ → Bool
is_sent_as request_id None = false
is_sent_as request_id (Some i) = i == request_id

-- the number of the pending call that was sent with a request id
abbrev pub waiting : ℕ → List Pending → Option ℕ
waiting request_id [] = None
waiting request_id (p ∷ ps) = if is_sent_as request_id p.sent then Some p.id else waiting request_id ps

abbrev pub completed_if : Option ℕ → Ended → Client → Client
completed_if None ended m = m
completed_if (Some id) ended m = completed id ended m

-- the pending call that was sent with a request id is pending still, and no longer sent on the present link; it is led elsewhere, or not
abbrev pub put_off : ℕ → Option Rest → List Pending → List Pending
put_off request_id led [] = []
put_off request_id led (p ∷ ps) = if is_sent_as request_id p.sent then record p { sent = None; led = led } ∷ ps else p ∷ put_off request_id led ps

-- whether a reply leaves its call pending
abbrev pub is_kept : Shown → Client → Bool
is_kept shown m = (m.keeps_transient && asks_again (reply_status_of shown.status) shown.body) || (m.keeps_forwards && is_some (led_as (reply_status_of shown.status) shown.body))

abbrev pub answered : Bool → ℕ → Option Rest → Ended → Client → Client
answered true request_id led ended m = record m { pending = put_off request_id led m.pending }
answered false request_id led ended m = completed_if (waiting request_id m.pending) ended m

-- a reply completes the call that waits for it, or leaves it pending; the reply to a locate completes none
abbrev pub settled : Answer → Client → Client
settled (replied request_id shown) m = answered (is_kept shown m) request_id (led_by shown) (ended_by shown) m
settled (located request_id shown) m = m

abbrev pub settled_all : List Answer → Client → Client
settled_all [] m = m
settled_all (a ∷ later) m = settled_all later (settled a m)

abbrev pub parted_at : Option Ending → Client → Client
parted_at None m = m
parted_at (Some e) m = parted m

-- octets that come on its link: their replies, in order; where they end the stream, the link is left
abbrev pub told_of : Hearing Answer → List ℕ → Client → Option Linked → Client
told_of down octets m None = m
told_of down octets m (Some l) = settled_all (news down l.received octets) (record m { link = Some (record l { received = l.received ++ octets }) })

abbrev pub ending_of : Hearing Answer → List ℕ → Option Linked → Option Ending
ending_of down octets None = None
ending_of down octets (Some l) = down.ending (l.received ++ octets)

abbrev pub fed_on : Hearing Answer → List ℕ → Client → Client
fed_on down octets m = parted_at (ending_of down octets m.link) (told_of down octets m m.link)

-- a call that isn't past its expiration at a moment
abbrev pub is_in_time : ℕ → Pending → Bool
is_in_time now p = nat_le now p.call.expiration

-- the pending calls that are past their expiration at a moment, and those that aren't
abbrev pub late : ℕ → List Pending → List (ℕ × Ended)
late now ps = leaving (is_in_time now) Expired ps

abbrev pub on_time : ℕ → List Pending → List Pending
on_time now ps = staying (is_in_time now) ps

-- the pending call of a number, if it is one
abbrev pub find_pending : ℤ → List Pending → Option Pending
find_pending id [] = None
find_pending id (p ∷ ps) = if int_eq (pos p.id) id then Some p else find_pending id ps

-- the first pending call that is led elsewhere, if one is
abbrev pub first_led : List Pending → Option Pending
first_led [] = None
first_led (p ∷ ps) = if is_some p.led then Some p else first_led ps

-- A call that is led elsewhere is redirected to an object key where its body stands under that as it came, and its Request is not too
-- long for a message size.
abbrev pub is_redirected : List ℕ → Client → Option Pending → Bool
is_redirected key m None = false
is_redirected key m (Some p) =
    is_some p.led && (keeps_place (transmission_to m.version m.client_id p.id 1 key p.call) && nat_lt (length (request_behind (transmission_to m.version m.client_id p.id 1 key p.call))) 4294967296)

-- the pending calls, where that of a number is asked for under an object key
abbrev pub asked_at : ℤ → List ℕ → List Pending → List Pending
asked_at id key [] = []
asked_at id key (p ∷ ps) = if int_eq (pos p.id) id then record p { at = key; led = None } ∷ ps else p ∷ asked_at id key ps

-- a pending call is cancelled; its request is withdrawn, if it was sent on the present link
abbrev pub recalled : Option Pending → Client → Client
recalled None m = m
recalled (Some p) m = completed p.id Cancelled m

abbrev pub withdrawn : Version → Option ℕ → List Said
withdrawn version None = []
withdrawn version (Some request_id) = Withdrawn version request_id ∷ []

abbrev pub says_recalled : Version → Option Pending → List Said
says_recalled version None = []
says_recalled version (Some p) = withdrawn version p.sent

-- what it is, where `down` says what it hears of its server
abbrev pub after : Hearing Answer → Happening → Client → Client
after down (Called now call) m = if is_taken now call m then placed (suc m.last) call m m.link else m
after down (Resumed now id call) m = if is_resumed now id call m then placed id call m m.link else m
after down (Skipped id) m = skipped id m
after down (Kept keeps) m = record m { keeps_transient = keeps }
after down (KeptForwards keeps) m = record m { keeps_forwards = keeps }
after down (Redirected id key) m = if is_redirected key m (find_pending id m.pending) then record m { pending = asked_at id key m.pending } else m
after down (Joined now) m = sent_off (joined now m)
after down (Resent now) m = resent_if now m m.link
after down (Fed octets) m = fed_on down octets m
after down Parted m = parted m
after down (Recalled id) m = recalled (find_pending id m.pending) m
after down (Ticked now) m = record m { pending = on_time now m.pending; completions = m.completions ++ late now m.pending }
after down Taken m = record m { completions = drop 1 m.completions }

-- what it writes
abbrev pub says : Happening → Client → List Said
says (Called now call) m = if is_taken now call m then says_placed (suc m.last) call m m.link else []
says (Resumed now id call) m = if is_resumed now id call m then says_placed id call m m.link else []
says (Skipped id) m = []
says (Kept keeps) m = []
says (KeptForwards keeps) m = []
says (Redirected id key) m = []
says (Joined now) m = says_again m.version m.client_id now 0 (unsent m.pending)
says (Resent now) m = says_resent now m m.link
says (Fed octets) m = []
says Parted m = []
says (Recalled id) m = says_recalled m.version (find_pending id m.pending)
says (Ticked now) m = []
says Taken m = []

-- the calls that it takes, with their numbers
abbrev pub made : Happening → Client → List (ℕ × Call)
made (Called now call) m = if is_taken now call m then (suc m.last, call) ∷ [] else []
made (Resumed now id call) m = if is_resumed now id call m then (id, call) ∷ [] else []
made _ m = []

-- the completions that are taken from it
abbrev pub gives : Happening → Client → List (ℕ × Ended)
gives Taken m = take 1 m.completions
gives _ m = []
