-- What a call does of which nothing is kept: a request is told what its owner has stored, or is refused, or goodbye is said on its
-- connection.
use Rattle.std.specs.Prelude.{◌≡◌, ◌⊎◌, ℕ, ◌<◌, List, ◌++◌, length, Result, Ok, Err}
use Rattle.cdr_core.specs.declared.order.Order.{Order}
use Rattle.giop_link.specs.Linking.{close_connection}
use Rattle.ft_log.specs.declared.outcome.RawStatus.{RawStatus}
use Rattle.ft_log.specs.Holding.{Holding}
use Rattle.ft_log.specs.Performed.{Performed, raw}
use Rattle.ft_objects.specs.Families.{families_offer}
use Rattle.ft_orb.specs.declared.ending.Ending.TheVariants.{GivenUp}
use Rattle.ft_orb.specs.declared.error.ServeError.{ServeError}
use Rattle.ft_orb.specs.declared.error.ServeError.TheVariants.{Memory as Short}
use Rattle.ft_orb.specs.declared.parked.Waiter.{Waiter}
use Rattle.ft_orb.specs.declared.unkept.Unkept.{Unkept}
use Rattle.ft_orb.specs.declared.unkept.Unkept.TheVariants as unkept
use Rattle.ft_orb.specs.Decisions.{answered_unkept}
use Rattle.ft_orb.specs.Deeds.{reply_to}
use Rattle.ft_orb.specs.Engines.{Awaited, EndsLast}
use Rattle.ft_orb.specs.History.{Event}
use Rattle.ft_orb.specs.Parking.{AsksLate, DeclinesLate, Settings, not_now, waiter_of, waits_on}
use Rattle.ft_orb.specs.Requests.{Call}
use Rattle.lemonrudder.specs.declared.refusal.Refusal.{Refusal}
use Rattle.lemonrudder.specs.declared.refusal.Refusal.TheVariants as refusal
use Rattle.lemonrudder.specs.declared.serving.Serving.{Serving}
use Rattle.lemonrudder.specs.declared.serving.questions.Found.{Found}
use Rattle.lemonrudder.specs.declared.serving.questions.Found.TheVariants as found
use Rattle.lemonrudder.specs.Late.{ForgetsLate, WhereAsks}
use Rattle.lemonrudder.specs.Naming.{order_named, raw_status_named, system_name_named}
use Rattle.lemonrudder.specs.Outcomes.{ByName, CanBe, UnlessShortFor}
use Rattle.lemonrudder.specs.Refusals.{refusal_of_serving}
use Rattle.lemonrudder.specs.Serves.{ByCalled, ByTicket, ChangesDue, EndsIfShort, IsIdle, IsRefused, IsSame, KeepsCatalogue, KeepsParked, NotesWhy, done_of, owed_on}
use Rattle.lemonrudder.specs.Settling.{Withdraws}
use Rattle.lemonrudder.specs.Tallied.{one_given_up}

-- The outcome is due after what was, where a reply is wished for, and nothing is kept. Or memory is short for it: the request is given
-- up, and nothing more is due.
abbrev pub Declines : ℕ → Performed → Serving → Serving → Result (Unit {0}) ServeError → Type 0
Declines c outcome s t (Ok done) = WhereAsks s (λ x held calls past waiting moment octets written w.
    DeclinesLate families_offer x held calls past waiting moment octets written w outcome t.engine (owed_on s c) (owed_on t c))
Declines c outcome s t (Err e) = (owed_on t c ≡ owed_on s c) × (n : ℕ) × (e ≡ Short n n) × ForgetsLate n s t
    × ((x : Settings) (held : ℕ → Holding) (calls : List Call) (past : List Event) (waiting : ℕ → List Waiter) (moment : ℕ) (octets written : List ℕ) (w : Awaited) (a : AsksLate families_offer x held calls s.engine past waiting moment octets written w)
    → 0 < length (reply_to outcome (waiter_of w.connection a.asks.question)))

-- the request that waits, which came on a connection, is told this
abbrev pub DeclinesAsked : Unkept → ℕ → Performed → Serving → Serving → Result ℕ Refusal → Type 0
DeclinesAsked u c outcome s t r = (o : Result (Unit {0}) ServeError) × (r ≡ done_of 0 refusal_of_serving o) × IsIdle t × ChangesDue c s t × KeepsCatalogue s t × KeepsParked (answered_unkept u) s t × Declines c outcome s t o × NotesWhy c s t × EndsIfShort c s.engine t.engine o

-- .. or one that is parked
abbrev pub Tells : Unkept → Found → Performed → Serving → Serving → Result ℕ Refusal → Type 0
Tells u (found.Waits number c) outcome s t r = DeclinesAsked u c outcome s t r
Tells u (found.Parked number) outcome s t r = Withdraws u number outcome s t r

-- octets are told as the body of a reply: not where they can't be that, for which no memory is taken
abbrev pub TellsBody : Found → RawStatus → Order → List ℕ → Serving → Serving → Result ℕ Refusal → Type 0
TellsBody found status order octets s t r = (¬ (CanBe found (raw status order octets) s) → IsRefused refusal.Outcome s t r)
    × (CanBe found (raw status order octets) s → UnlessShortFor octets s t r (Tells unkept.Performed found (raw status order octets) s t r))

-- the request of a ticket is told the body of a reply that its owner has stored
abbrev pub OnAnswerUnkept : (ticket status order : ℕ) → List ℕ → Serving → Serving → Result ℕ Refusal → Type 0
OnAnswerUnkept ticket status order body s t r = ByName (raw_status_named status) s t r (λ n. ByName (order_named order) s t r (λ o. ByCalled ticket s t r (λ found w. TellsBody found n o body s t r)))

-- the request of a ticket is refused, by a system exception with COMPLETED_NO
abbrev pub OnRefuse : (ticket name minor : ℕ) → Serving → Serving → Result ℕ Refusal → Type 0
OnRefuse ticket name minor s t r = ByName (system_name_named name) s t r (λ n. ByCalled ticket s t r (λ found w. Tells unkept.Refusal found (not_now n minor) s t r))

-- Goodbye is said first (GIOP 9.4.7), and the request of a ticket is given up, which waits. Where somebody waits on its connection for the
-- outcome of a request that is parked, or memory is short, nothing has changed, and it waits still.
abbrev pub OnGoodbye : ℕ → Serving → Serving → Result ℕ Refusal → Type 0
OnGoodbye ticket s t r = ByTicket ticket s t r (λ w.
    (0 < waits_on s.engine w.connection → (r ≡ Err refusal.Parks) × IsSame s t)
    × (waits_on s.engine w.connection ≡ 0 → ((r ≡ Err refusal.Memory) × IsSame s t)
    ⊎ ((r ≡ Ok 0) × IsIdle t × ChangesDue w.connection s t × (owed_on t w.connection ≡ owed_on s w.connection ++ close_connection) × KeepsCatalogue s t × KeepsParked one_given_up s t × (n : ℕ) × ForgetsLate n s t
    × EndsLast t.engine w.connection GivenUp × NotesWhy w.connection s t)))
