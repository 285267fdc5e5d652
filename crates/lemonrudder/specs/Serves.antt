-- What a call on a server does.
use Rattle.std.specs.Prelude.{◌≡◌, ◌==◌, ◌⊎◌, ℕ, ◌<◌, ◌≤◌, Bool, true, false, min, max, List, length, drop, IfErr, IsSome, Option, Some, None, Result, Ok, Err}
use Rattle.std.specs.Int.{from_bool}
use Rattle.std.specs.Ordering.{nat_cmp}
use Rattle.std.specs.BTreeSet.{contains}
use Rattle.ft_log.specs.Kept.{unexpired}
use Rattle.ft_orb.specs.declared.counts.Counts.{Counts}
use Rattle.ft_orb.specs.declared.engine.Engine.{Engine}
use Rattle.ft_orb.specs.declared.engine.Fed.TheVariants as fed
use Rattle.ft_orb.specs.declared.engine.Taken.{Taken}
use Rattle.ft_orb.specs.declared.engine.Taken.TheVariants as taken
use Rattle.ft_orb.specs.declared.ending.Ending.{Ending}
use Rattle.ft_orb.specs.declared.ending.Ending.TheVariants.{GivenUp}
use Rattle.ft_orb.specs.declared.error.ConnectError.{ConnectError}
use Rattle.ft_orb.specs.declared.error.ServeError.{ServeError}
use Rattle.ft_orb.specs.Engines.{AreEndings, Awaited, EndsClosed, EndsLast, EndsShort, IsFit, IsLeftAt, IsNumbered, asks_in, clock_in, counts_in, ending_in, kept_in, waits_in}
use Rattle.ft_objects.specs.Families.{families_offer}
use Rattle.ft_orb.specs.Bounds.{ComesDue, fed_in, piece_in}
use Rattle.ft_orb.specs.Parked.{going_in}
use Rattle.ft_orb.specs.Parking.{AreParked, parked_in, waits_on}
use Rattle.lemonrudder.specs.declared.object.Object.{Object}
use Rattle.lemonrudder.specs.declared.object.Object.TheVariants.{Server}
use Rattle.lemonrudder.specs.declared.refusal.Refusal.{Refusal}
use Rattle.lemonrudder.specs.declared.refusal.Refusal.TheVariants as refusal
use Rattle.lemonrudder.specs.declared.serving.Serving.{Serving}
use Rattle.lemonrudder.specs.declared.serving.questions.Found.{Found}
use Rattle.lemonrudder.specs.declared.terms.Setup.{Setup}
use Rattle.lemonrudder.specs.Connected.{AreAsNoted, AreOthers, AreOthersNoted, AreSame, Notes, OnlyDue, StartsLeaving, is_there, leaves_in, owed_in, why_in}
use Rattle.lemonrudder.specs.Late.{ClosesLate, ForgetsLate, IsClosedLate, IsNewLate, LosesLate, OpensLate, TakesLate, TicksLate}
use Rattle.lemonrudder.specs.Refusals.{filled, refusal_of_connecting, refusal_of_serving}
use Rattle.lemonrudder.specs.Tallied.{as_counted, one_given_up}
use Rattle.lemonrudder.specs.Tickets.{called_by, waiting_by}

-- a call is refused, and nothing has changed
abbrev pub IsRefused : Refusal → Serving → Serving → Result ℕ Refusal → Type 0
IsRefused e s t r = (r ≡ Err e) × (t ≡ s)

-- nothing waits for its outcome
abbrev pub IsIdle : Serving → Type 0
IsIdle s = waits_in s.engine ≡ None

-- the octets that are due on a connection
abbrev pub owed_on : Serving → ℕ → List ℕ
owed_on s c = owed_in s.connections c

-- whether it is leaving: goodbye is said on it once nobody waits there for an outcome
abbrev pub leaves_on : Serving → ℕ → Bool
leaves_on s c = leaves_in s.connections c

-- why it ended, where that is noted
abbrev pub why_on : Serving → ℕ → Option Ending
why_on s c = why_in s.connections c

-- as many are due on it as may be
abbrev pub IsFull : ℕ → Serving → Type 0
IsFull c s = s.setup.terms.due ≤ length (owed_on s c)

-- it is named: octets came due on it that no call on it brought
abbrev pub is_named : Serving → ℕ → Bool
is_named s c = contains nat_cmp s.ready c

-- a call is refused while a request waits, and else does this
abbrev pub WhereIdle : Serving → Serving → Result ℕ Refusal → Type 0 → Type 0
WhereIdle s t r Does = (IsSome (waits_in s.engine) → IsRefused refusal.Asking s t r) × (IsIdle s → Does)

-- what is due stays due, on each connection, and those that are named stay so
abbrev pub KeepsDue : Serving → Serving → Type 0
KeepsDue s t = AreSame s.connections t.connections × (t.ready ≡ s.ready)

-- what is noted of each connection stays
abbrev pub KeepsNotes : Serving → Serving → Type 0
KeepsNotes s t = AreAsNoted s.connections t.connections

-- where the engine says by now why c ended that is noted, and nothing else
abbrev pub NotesWhy : ℕ → Serving → Serving → Type 0
NotesWhy c s t = Notes c (ending_in t.engine c) s.connections t.connections

-- .. but for what is due on c
abbrev pub ChangesDue : ℕ → Serving → Serving → Type 0
ChangesDue c s t = OnlyDue c s.connections t.connections × (t.ready ≡ s.ready)

-- nothing has changed
abbrev pub IsSame : Serving → Serving → Type 0
IsSame s t = (t.engine ≡ s.engine) × (t.setup ≡ s.setup) × KeepsDue s t × KeepsNotes s t

-- what is on offer stays, and so do the limits, and whether there was a connection
abbrev pub KeepsCatalogue : Serving → Serving → Type 0
KeepsCatalogue s t = (t.engine.offering ≡ s.engine.offering) × (t.setup ≡ s.setup)

-- .. nor does it number a request: no ticket is given twice
abbrev pub KeepsTickets : Serving → Serving → Type 0
KeepsTickets s t = asks_in t.engine ≡ asks_in s.engine

-- .. what is parked stays as it is, and so do outcomes that are told, and what is counted changes so
abbrev pub KeepsParked : (Counts → Counts) → Serving → Serving → Type 0
KeepsParked counted s t = KeepsTickets s t × AreParked s.engine t.engine × (counts_in t.engine ≡ counted (counts_in s.engine))

-- no connection ends, as the engine says it
abbrev pub KeepsEndings : Serving → Serving → Type 0
KeepsEndings s t = AreEndings s.engine t.engine

-- .. but c, where memory was short
abbrev pub EndsIfShort : {C : Type 0} → ℕ → Engine C → Engine C → Result (Unit {0}) ServeError → Type 0
EndsIfShort c old new (Ok x) = AreEndings old new
EndsIfShort c old new (Err e) = EndsShort old new c e

-- a call by a ticket is refused where nothing waits, and where another request does, and else does this by what waits
abbrev pub ByWaiting : Result Awaited Refusal → Serving → Serving → Result ℕ Refusal → (Awaited → Type 0) → Type 0
ByWaiting (Err e) s t r Does = IsRefused e s t r
ByWaiting (Ok w) s t r Does = Does w

abbrev pub ByTicket : ℕ → Serving → Serving → Result ℕ Refusal → (Awaited → Type 0) → Type 0
ByTicket ticket s t r Does = ByWaiting (waiting_by ticket (waits_in s.engine)) s t r Does

-- .. of a request that waits or is parked
abbrev pub ByFound : Result (Found × Awaited) Refusal → Serving → Serving → Result ℕ Refusal → (Found → Awaited → Type 0) → Type 0
ByFound (Err e) s t r Does = IsRefused e s t r
ByFound (Ok x) s t r Does = Does x.0 x.1

abbrev pub ByCalled : ℕ → Serving → Serving → Result ℕ Refusal → (Found → Awaited → Type 0) → Type 0
ByCalled ticket s t r Does = ByFound (called_by ticket (waits_in s.engine) (parked_in s.engine)) s t r Does

-- what a call answers: a number where it was done, or why it was not
abbrev pub done_of : {A E : Type 0} → ℕ → (E → Refusal) → Result A E → Result ℕ Refusal
done_of n why (Ok x) = Ok n
done_of n why (Err e) = Err (why e)

-- whether there was a connection, once one is opened, or not for want of memory or a number that is new
abbrev pub opened_with : Result (Unit {0}) ConnectError → Setup → Setup
opened_with (Ok x) setup = record setup { opened = true }
opened_with (Err e) setup = setup

-- a connection is there once it is opened, and nothing is due on one that was not; else all are as they were
abbrev pub Opens : ℕ → Result (Unit {0}) ConnectError → Serving → Serving → Type 0
Opens c (Ok x) s t = (is_there t.connections c ≡ true) × (owed_on t c ≡ owed_on s c) × AreOthers c s.connections t.connections
Opens c (Err e) s t = AreSame s.connections t.connections

-- a connection is opened: not while a request waits, and where memory is short for one that is not there, whose number is new, nothing
-- has changed
abbrev pub OnConnect : ℕ → Serving → Serving → Result ℕ Refusal → Type 0
OnConnect c s t r = WhereIdle s t r (((r ≡ Err refusal.Memory) × (is_there s.connections c ≡ false) × IsNewLate c s × IsSame s t)
    ⊎ ((o : Result (Unit {0}) ConnectError) × (r ≡ done_of 0 refusal_of_connecting o) × IsIdle t × Opens c o s t × (t.ready ≡ s.ready) × (t.engine.offering ≡ s.engine.offering) × (t.setup ≡ opened_with o s.setup) × KeepsParked as_counted s t
    × OpensLate c s t o × KeepsNotes s t × KeepsEndings s t))

-- a connection is forgotten, with what was due on it and noted of it, and is named no more
abbrev pub Forgotten : ℕ → Serving → Serving → Type 0
Forgotten c s t = (is_there t.connections c ≡ false) × AreOthers c s.connections t.connections × (is_named t c ≡ false) × ((q : ℕ) → (c == q) ≡ false → is_named t q ≡ is_named s q) × AreOthersNoted c s.connections t.connections

-- a connection is lost: not while a request waits
abbrev pub OnLost : ℕ → Serving → Serving → Result ℕ Refusal → Type 0
OnLost c s t r = WhereIdle s t r ((r ≡ Ok 0) × IsIdle t × Forgotten c s t × KeepsCatalogue s t × KeepsParked as_counted s t × LosesLate c s t × KeepsEndings s t)

-- a connection ended by it, if it went on: it was closed, or memory was short
abbrev pub EndsBy : ℕ → Serving → Serving → Result (Unit {0}) ServeError → Type 0
EndsBy c s t (Ok x) = EndsClosed s.engine t.engine c (going_in s.engine.links c)
EndsBy c s t (Err e) = EndsShort s.engine t.engine c e

-- goodbye is said on a connection on which nobody waits, and what the engine writes is due after what was
abbrev pub Closes : ℕ → Serving → Serving → Result (Unit {0}) ServeError → Type 0
Closes c s t o = IsIdle t × ChangesDue c s t × KeepsCatalogue s t × KeepsParked as_counted s t × ClosesLate c s t o × EndsBy c s t o × NotesWhy c s t

abbrev pub IsClosed : ℕ → Serving → Serving → Result ℕ Refusal → Type 0
IsClosed c s t r = (o : Result (Unit {0}) ServeError) × (r ≡ done_of 0 refusal_of_serving o) × Closes c s t o

-- where somebody waits there for the outcome of a request that is parked, it is leaving: goodbye is said once nobody does (`Parts`)
abbrev pub IsLeft : ℕ → Serving → Serving → Type 0
IsLeft c s t = (t.engine ≡ s.engine) × (t.setup ≡ s.setup) × (t.ready ≡ s.ready) × StartsLeaving c s.connections t.connections

-- goodbye is said on a connection, or it is reported how many wait there, and it is leaving: not while a request waits
abbrev pub OnFarewell : ℕ → Serving → Serving → Result ℕ Refusal → Type 0
OnFarewell c s t r = WhereIdle s t r ((is_there s.connections c ≡ false → IsRefused refusal.Connection s t r)
    × (is_there s.connections c ≡ true
    → (0 < waits_on s.engine c → (r ≡ Ok (waits_on s.engine c)) × IsLeft c s t)
    × (waits_on s.engine c ≡ 0 → IsClosed c s t r)))

-- it is reported whether what comes on a connection has no meaning
abbrev pub OnIsClosed : ℕ → Serving → Serving → Result ℕ Refusal → Type 0
OnIsClosed c s t r = (t ≡ s) × (closed : Bool) × (r ≡ Ok (from_bool closed)) × IsClosedLate c closed s

-- how many octets are taken, of so many
abbrev pub taken_of : ℕ → Result Taken ServeError → Result ℕ Refusal
taken_of size (Ok (taken.Fed fed.Whole)) = Ok size
taken_of size (Ok (taken.Fed (fed.Asks n))) = Ok n
taken_of size (Ok (taken.Fed (fed.Repeats n))) = Ok n
taken_of size (Ok (taken.Due n)) = Ok n
taken_of size (Err e) = Err (refusal_of_serving e)

-- the engine takes octets until as many are due as may be, and what it writes is due after what was
abbrev pub Takes : (c moment : ℕ) → List ℕ → Serving → Serving → Result Taken ServeError → Type 0
Takes c moment octets s t f =
    IsLeftAt c (length (piece_in octets f)) (fed_in f) (waits_in t.engine) × IsNumbered (asks_in s.engine) (asks_in t.engine) (fed_in f) (waits_in t.engine) × IsFit t.engine.offering.first (families_offer t.engine.offering.catalogue) (waits_in t.engine)
    × ComesDue s.setup.terms.due (length (owed_on t c)) (length octets) f × IfErr f (λ e. EndsShort s.engine t.engine c e) × TakesLate c moment octets s t f

abbrev pub Serves : (c moment : ℕ) → List ℕ → Serving → Serving → Result ℕ Refusal → Type 0
Serves c moment octets s t r = (f : Result Taken ServeError) × (r ≡ taken_of (length octets) f) × ChangesDue c s t × KeepsCatalogue s t × AreParked s.engine t.engine × Takes c moment octets s t f × NotesWhy c s t

-- a moment has come, and nothing else
abbrev pub Ticks : ℕ → Serving → Serving → Type 0
Ticks moment s t = IsIdle t × KeepsDue s t × KeepsNotes s t × KeepsCatalogue s t × KeepsParked as_counted s t
    × (clock_in t.engine ≡ max (clock_in s.engine) moment) × (kept_in t.engine ≡ unexpired (clock_in t.engine) (kept_in s.engine))
    × TicksLate moment s t × KeepsEndings s t

-- Octets of a connection are fed: not while a request waits. Where there is no such connection only the moment counts. Those of one
-- that is leaving mean nothing: all are taken, and only the moment counts too. Where as many octets are due on it as may be none are
-- taken, and nothing has changed.
abbrev pub OnFeed : (c moment : ℕ) → List ℕ → Serving → Serving → Result ℕ Refusal → Type 0
OnFeed c moment octets s t r = WhereIdle s t r ((is_there s.connections c ≡ false → (r ≡ Err refusal.Connection) × Ticks moment s t)
    × (is_there s.connections c ≡ true → (leaves_on s c ≡ true → (r ≡ Ok (length octets)) × Ticks moment s t)
    × (leaves_on s c ≡ false → (IsFull c s → (r ≡ Ok 0) × (t ≡ s)) × (¬ (IsFull c s) → Serves c moment octets s t r))))

-- the request of a ticket is given up: n requests and locates of its piece were answered before, it does not count, and its connection
-- has ended
abbrev pub OnGiveUp : ℕ → Serving → Serving → Result ℕ Refusal → Type 0
OnGiveUp ticket s t r = ByTicket ticket s t r (λ w. (r ≡ Ok 0) × IsIdle t × KeepsDue s t × KeepsCatalogue s t × KeepsParked one_given_up s t × (n : ℕ) × ForgetsLate n s t
    × EndsLast t.engine w.connection GivenUp × NotesWhy w.connection s t)

-- octets that are due on a connection are copied to the front of a room, as many as it has, and are due no longer
abbrev pub OnOutput : ℕ → (room new : List ℕ) → Serving → Serving → Result ℕ Refusal → Type 0
OnOutput c room new s t r =
    let n = min (length (owed_on s c)) (length room) in
    (r ≡ Ok n) × (new ≡ filled (owed_on s c) room) × (owed_on t c ≡ drop n (owed_on s c)) × ChangesDue c s t × KeepsNotes s t × (t.engine ≡ s.engine) × (t.setup ≡ s.setup)

-- there is no server in a slot
abbrev pub HasNoServer : Option Object → Type 0
HasNoServer (Some (Server s)) = ⊥
HasNoServer _ = Unit {0}
