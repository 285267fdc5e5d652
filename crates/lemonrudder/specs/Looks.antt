-- What a server says of itself: the service contexts of what waits, and its numbers for an operator.
use Rattle.std.specs.Prelude.{◌≡◌, ℕ, ◌-◌, List, [], ◌∷◌, length, slice_get, Option, Some, None, Result, Ok, Err}
use Rattle.ft_log.specs.Holding.{Holding}
use Rattle.ft_log.specs.Keys.{held_of}
use Rattle.ft_log.specs.Kept.{keys_of, least_expiration}
use Rattle.ft_objects.specs.Families.{families_offer}
use Rattle.ft_orb.specs.declared.counts.Counts.{Counts}
use Rattle.ft_orb.specs.declared.parked.Waiter.{Waiter}
use Rattle.ft_orb.specs.Engines.{Awaited, counts_in, kept_in}
use Rattle.ft_orb.specs.History.{Event}
use Rattle.ft_orb.specs.Parking.{AsksLate, Settings, parked_count, parked_in, wanted_in}
use Rattle.ft_orb.specs.Requests.{Call}
use Rattle.lemonrudder.specs.declared.refusal.Refusal.{Refusal}
use Rattle.lemonrudder.specs.declared.refusal.Refusal.TheVariants as refusal
use Rattle.lemonrudder.specs.declared.serving.Serving.{Serving}
use Rattle.lemonrudder.specs.Connected.{how_many}
use Rattle.lemonrudder.specs.Items.{CopiesItem}
use Rattle.lemonrudder.specs.Serves.{IsIdle, Ticks, WhereIdle}
use Rattle.lemonrudder.specs.Tickets.{parked_by}

-- a service context of the request that waits, by its index, is copied, and its id given, if there is one
abbrev pub OnContext : ℕ → (id given : ℕ) → (room new : List ℕ) → Serving → Serving → Result ℕ Refusal → Type 0
OnContext index id given room new s t r = (t ≡ s) × (IsIdle s → (r ≡ Err refusal.Idle) × (given ≡ id) × (new ≡ room))
    × ((x : Settings) (held : ℕ → Holding) (calls : List Call) (past : List Event) (waiting : ℕ → List Waiter) (moment : ℕ) (octets written : List ℕ) (w : Awaited) → (a : AsksLate families_offer x held calls s.engine past waiting moment octets written w)
    → CopiesItem (slice_get a.asks.question.contexts index) id given room new r)

abbrev pub wanted_if : Option Awaited → ℕ → Result ℕ Refusal
wanted_if (Some w) n = Ok n
wanted_if None n = Err refusal.Ticket

-- it is reported how many wait for the outcome of the request of a ticket, which is parked, on connections that go on
abbrev pub OnWanted : (ticket : ℕ) → Serving → Serving → Result ℕ Refusal → Type 0
OnWanted ticket s t r = (t ≡ s) × (r ≡ wanted_if (parked_by ticket (parked_in s.engine)) (wanted_in s.engine (ticket - 1)))

-- what became of requests and locates, counted, in the order of the header
abbrev pub numbers_of : Counts → List ℕ
numbers_of c =
    c.asked ∷ c.repeated ∷ c.joined ∷ c.expired ∷ c.malformed ∷ c.invalid ∷ c.log_full ∷ c.share_full ∷ c.located ∷ c.dropped
    ∷ c.answered ∷ c.parked ∷ c.settled ∷ c.given_up ∷ c.declined ∷ c.withdrawn ∷ []

-- the numbers for an operator, in the order of the header: its connections, what it keeps, what is parked, and what became of all
-- that came
abbrev pub numbers_in : Serving → List ℕ
numbers_in s = how_many s.connections ∷ length (kept_in s.engine) ∷ parked_count s.engine ∷ numbers_of (counts_in s.engine)

abbrev pub number_if : Option ℕ → Result ℕ Refusal
number_if (Some n) = Ok n
number_if None = Err refusal.Range

-- one of these is asked for, by its place among them
abbrev pub OnCount : (what : ℕ) → Serving → Serving → Result ℕ Refusal → Type 0
OnCount what s t r = (t ≡ s) × (r ≡ number_if (slice_get (numbers_in s) what))

-- it is reported how many outcomes are kept for a client, and places of outcomes that will come
abbrev pub OnHeldBy : (client : List ℕ) → Serving → Serving → Result ℕ Refusal → Type 0
OnHeldBy client s t r = (t ≡ s) × (r ≡ Ok (held_of client (keys_of (kept_in s.engine))))

-- the least expiration under which something is kept is reported, and 1; or 0, where nothing is, and the caller's number is as it was
abbrev pub TellsMoment : Option ℕ → (moment new : ℕ) → Result ℕ Refusal → Type 0
TellsMoment None moment new r = (r ≡ Ok 0) × (new ≡ moment)
TellsMoment (Some next) moment new r = (r ≡ Ok 1) × (new ≡ next)

abbrev pub OnNextExpiry : (moment new : ℕ) → Serving → Serving → Result ℕ Refusal → Type 0
OnNextExpiry moment new s t r = (t ≡ s) × TellsMoment (least_expiration (kept_in s.engine)) moment new r

-- a moment has come, as with a piece without octets on a connection that there is not: what expired before it is forgotten; not while
-- a request waits
abbrev pub OnTick : (moment : ℕ) → Serving → Serving → Result ℕ Refusal → Type 0
OnTick moment s t r = WhereIdle s t r ((r ≡ Ok 0) × Ticks moment s t)
