-- Samples: what the definitions give on short schedules, which are written out, over two simple directions: a request takes 84
-- octets and a withdrawal 16, a reply with results 32, one with a system exception 72, and CloseConnection 12. The last octet of
-- each says which it is, and all others are 0.
use Rattle.std.proofs.Common.{◌≡◌, ℕ, ◌==◌, ◌||◌, max, nat_lt, bytes_eq, Bool, false, true, if◌then◌else◌, List, [], ◌∷◌, ◌++◌, replicate, Option, Some, None, pos, refl, lit≤}
use Rattle.cdr_core.specs.Parts.{longlong_value}
use Rattle.cdr_core.specs.Value.{no_values, values}
use Rattle.giop_core.specs.Written.{behind_header}
use Rattle.giop_core.specs.declared.header.Version.TheVariants.{V12}
use Rattle.giop_frames.specs.declared.limits.Cuts.TheVariants.{Aligned}
use Rattle.giop_frames.specs.declared.limits.Limits.{Limits}
use Rattle.giop_link.specs.Hearing.{Ending, peer_closed}
use Rattle.cdr_core.specs.declared.order.Order.TheVariants.{Big}
use Rattle.ft_log.specs.Performed.{Performed, raw, returned, system}
use Rattle.ft_log.specs.declared.outcome.RawStatus.TheVariants as raw_status
use Rattle.ft_log.specs.declared.system_exception.Completion.TheVariants.{No}
use Rattle.ft_log.specs.declared.system_exception.SystemName.TheVariants.{BadContext}
use Rattle.ft_client.specs.Clients.{Cancelled, Ended, Expired}
use Rattle.ft_client.specs.Messages.{Answer, Asked, Call, Said, Withdrawn, replied, typed}
use Rattle.ft_orb.specs.History.{Changed, Close, Event, Gone, Line, Lost, Opened, Piece, Shut as Closed, Up, Withdrew, clock, line}
use Rattle.ft_objects.specs.Replies.{body_of, order_of, status_of}
use Rattle.ft_ends.specs.Both.{ended_of}
use Rattle.ft_orb.specs.Tellings.{Closing, Failed, Located, Replied, Telling}
use Rattle.ft_ends.specs.Tellings.{shown_as}
use Rattle.ft_ends.specs.World.{CallNow, Cancel, Connect, Cut, Down, KeepForwards, RedirectTo, ResendNow, Shut, Sides, Step, Tick, UpTo, world}

-- a message of so many octets, of which the last says what it is
abbrev message : ℕ → ℕ → List ℕ
message n mark = replicate n 0 ++ mark ∷ []

abbrev octets_of_said : Said → List ℕ
octets_of_said (Asked t) = message 83 1
octets_of_said (Withdrawn version id) = message 15 2

abbrev octets_of_telling : Telling → List ℕ
octets_of_telling (Replied version order id status body) = if status == 0 then message 31 1 else message 71 2
octets_of_telling (Located version id status) = []
octets_of_telling Failed = []
octets_of_telling Closing = message 11 3

-- the total is 7, or the request comes too late
abbrev seven : Performed
seven = returned (values (longlong_value (pos 7) ∷ []))

abbrev too_late : Performed
too_late = system BadContext 0 No

abbrev reply_to : Performed → Answer
reply_to p = replied 1 (shown_as (order_of p) (status_of p) (body_of p))

abbrev heard_in : List ℕ → List Answer
heard_in [] = []
heard_in (n ∷ ns) = if n == 3 then [] else (if n == 1 then reply_to seven ∷ heard_in ns else (if n == 2 then reply_to too_late ∷ heard_in ns else heard_in ns))

abbrev ending_in : List ℕ → Option Ending
ending_in [] = None
ending_in (n ∷ ns) = if n == 3 then Some peer_closed else ending_in ns

-- a server that answers each request whole, by its clock
abbrev is_whole : List ℕ → Bool
is_whole [] = false
is_whole (n ∷ ns) = n == 1 || is_whole ns

abbrev answer_at : ℕ → Performed
answer_at now = if nat_lt 100 now then too_late else seven

abbrev answered_on : ℕ → Line → List ℕ → List Telling
answered_on now Gone octets = []
answered_on now Closed octets = []
answered_on now (Up s) octets = if is_whole octets then Replied V12 (order_of (answer_at now)) 1 (status_of (answer_at now)) (body_of (answer_at now)) ∷ [] else []

abbrev closed_on : Line → List Telling
closed_on Gone = []
closed_on Closed = []
closed_on (Up s) = Closing ∷ []

abbrev says : List Event → Event → List Telling
says past (Opened c) = []
says past (Piece c moment octets) = answered_on (max (clock past) moment) (line past c) octets
says past (Close c) = closed_on (line past c)
says past (Lost c) = []
says past (Withdrew i) = []
says past Changed = []

abbrev sides : Sides
sides = record { said = octets_of_said; telling = octets_of_telling; hears = λ own. record { heard = heard_in; ending = ending_in }; says = says }

abbrev limits : Limits
limits = record { message = 4096; partials = 1; cuts = Aligned; message_in_range = (lit≤ tt, lit≤ tt); partials_in_range = (lit≤ tt, lit≤ tt) }

-- `add` of the object `c`, until the moment 100
abbrev add : Call
add = record { object_key = 99 ∷ []; operation = 97 ∷ 100 ∷ 100 ∷ []; arguments = no_values; expiration = 100; form = typed }

-- what completes where one client calls and connects, and then this happens
abbrev completions : List Step → List (ℕ × ℕ × Ended)
completions steps = (world sides (record { client_id = 65 ∷ []; version = V12; limits = limits } ∷ []) (CallNow 0 50 add ∷ Connect 0 50 ∷ steps)).completions

-- the reply is lost with the connection, and the request that is sent again is answered
again : completions (UpTo 0 84 50 ∷ Cut 0 ∷ Connect 0 60 ∷ UpTo 0 84 60 ∷ Down 0 32 ∷ []) ≡ (0, 1, ended_of seven) ∷ []
unfolding behind_header
again = refl

-- half a request is nothing, and the call expires
expires : completions (UpTo 0 83 50 ∷ Cut 0 ∷ Tick 0 101 ∷ []) ≡ (0, 1, Expired) ∷ []
unfolding behind_header
expires = refl

-- a request that comes too late is refused, also where it was performed before
late : completions (UpTo 0 84 101 ∷ Down 0 72 ∷ []) ≡ (0, 1, ended_of too_late) ∷ []
unfolding behind_header
late = refl

late_again : completions (UpTo 0 84 50 ∷ Cut 0 ∷ Connect 0 60 ∷ UpTo 0 84 101 ∷ Down 0 72 ∷ []) ≡ (0, 1, ended_of too_late) ∷ []
unfolding behind_header
late_again = refl

-- after the server has closed the connection the client still gets the reply
closing : completions (UpTo 0 84 50 ∷ Shut 0 ∷ Down 0 44 ∷ []) ≡ (0, 1, ended_of seven) ∷ []
unfolding behind_header
closing = refl

-- it leaves a connection that was closed, and calls again on the next
closed : completions (Shut 0 ∷ Down 0 12 ∷ Connect 0 60 ∷ UpTo 0 84 60 ∷ Down 0 32 ∷ []) ≡ (0, 1, ended_of seven) ∷ []
unfolding behind_header
closed = refl

-- the late reply to a call that was cancelled gives nothing
cancelled : completions (UpTo 0 84 50 ∷ Cancel 0 (pos 1) ∷ Down 0 32 ∷ []) ≡ (0, 1, Cancelled) ∷ []
unfolding behind_header
cancelled = refl

-- steps that can't act do nothing: no such client, a second connection, and a connection that isn't there
idle : completions (Connect 0 60 ∷ Down 1 32 ∷ Cut 0 ∷ UpTo 0 84 60 ∷ Shut 0 ∷ Down 0 32 ∷ Connect 0 60 ∷ UpTo 0 84 60 ∷ Down 0 32 ∷ []) ≡ (0, 1, ended_of seven) ∷ []
unfolding behind_header
idle = refl

-- A server that sends each request on, and answers one that is asked for under another key than its call's. Its reply that forwards
-- takes 24 octets.
abbrev elsewhere : Performed
elsewhere = raw raw_status.LocationForward Big []

abbrev octets_by_key : Said → List ℕ
octets_by_key (Asked t) = message 83 (if bytes_eq t.at t.call.object_key then 1 else 4)
octets_by_key (Withdrawn version id) = message 15 2

abbrev octets_by_status : Telling → List ℕ
octets_by_status (Replied version order id status body) = if status == 0 then message 31 6 else message 23 5
octets_by_status (Located version id status) = []
octets_by_status Failed = []
octets_by_status Closing = []

abbrev heard_by : List ℕ → List Answer
heard_by [] = []
heard_by (n ∷ ns) =
    if n == 5 then replied 1 (shown_as (order_of elsewhere) (status_of elsewhere) (body_of elsewhere)) ∷ heard_by ns
    else (if n == 6 then replied 2 (shown_as (order_of seven) (status_of seven) (body_of seven)) ∷ heard_by ns else heard_by ns)

abbrev is_asked : ℕ → List ℕ → Bool
is_asked mark [] = false
is_asked mark (n ∷ ns) = n == mark || is_asked mark ns

abbrev answered_by : List ℕ → List Telling
answered_by octets =
    if is_asked 1 octets then Replied V12 Big 1 3 (body_of elsewhere) ∷ [] else (if is_asked 4 octets then Replied V12 Big 2 0 (body_of seven) ∷ [] else [])

abbrev leads : List Event → Event → List Telling
leads past (Opened c) = []
leads past (Piece c moment octets) = answered_by octets
leads past (Close c) = []
leads past (Lost c) = []
leads past (Withdrew i) = []
leads past Changed = []

abbrev leading : Sides
leading = record { said = octets_by_key; telling = octets_by_status; hears = λ own. record { heard = heard_by; ending = λ octets. None }; says = leads }

-- what completes where a client that keeps to forwards calls and connects, its call is forwarded, and then this happens
abbrev led : List Step → List (ℕ × ℕ × Ended)
led steps =
    (world leading (record { client_id = 65 ∷ []; version = V12; limits = limits } ∷ []) (KeepForwards 0 true ∷ CallNow 0 50 add ∷ Connect 0 50 ∷ UpTo 0 84 50 ∷ Down 0 24 ∷ steps)).completions

-- it is asked for under another key, and ends with what that gives
redirected : led (RedirectTo 0 (pos 1) (102 ∷ []) ∷ ResendNow 0 60 ∷ UpTo 0 84 60 ∷ Down 0 32 ∷ []) ≡ (0, 1, ended_of seven) ∷ []
unfolding behind_header
redirected = refl

-- it is not sent again before, and no other call is redirected
unled : led (ResendNow 0 60 ∷ UpTo 0 84 60 ∷ RedirectTo 0 (pos 2) (102 ∷ []) ∷ ResendNow 0 60 ∷ UpTo 0 84 60 ∷ Down 0 32 ∷ Tick 0 101 ∷ []) ≡ (0, 1, Expired) ∷ []
unfolding behind_header
unled = refl
