-- What is reported of the request that waits, and of one that is parked.
use Rattle.std.specs.Prelude.{◌≡◌, ◌⊎◌, ℕ, ◌<◌, ◌^◌, nat_lt, Bool, true, false, if◌then◌else◌, List, length, Option, Some, None, unwrap_or, Result, Ok, Err}
use Rattle.std.specs.Int.{from_bool}
use Rattle.std.specs.Option.{option_map_or}
use Rattle.cdr_core.specs.declared.order.Order.TheVariants.{Big}
use Rattle.cdr_core.specs.Value.{Values}
use Rattle.cdr_core.specs.Writing.{AreWritable, octets_of_all}
use Rattle.giop_link.specs.Hearing.{Question}
use Rattle.ft_objects.specs.Accessors.{boolean_of, octets_in, read_at, ulong_of}
use Rattle.ft_log.specs.Holding.{Holding}
use Rattle.ft_orb.specs.declared.parked.Waiter.{Waiter}
use Rattle.ft_orb.specs.Engines.{Awaited, waits_in}
use Rattle.ft_objects.specs.Families.{families_offer}
use Rattle.ft_orb.specs.ExactlyOnce.{Absent, Bad, Field, Present}
use Rattle.ft_orb.specs.History.{Event}
use Rattle.ft_objects.specs.Interfaces.{Interface, raw_operation}
use Rattle.ft_orb.specs.Parking.{AsksLate, Settings, parked_in}
use Rattle.ft_orb.specs.Requests.{Call}
use Rattle.lemonrudder.specs.declared.refusal.Refusal.{Refusal}
use Rattle.lemonrudder.specs.declared.refusal.Refusal.TheVariants as refusal
use Rattle.lemonrudder.specs.declared.request.RequestHead.{RequestHead}
use Rattle.lemonrudder.specs.declared.serving.Serving.{Serving}
use Rattle.lemonrudder.specs.declared.serving.questions.Found.{Found}
use Rattle.lemonrudder.specs.Asking.{no_request, with_question, with_refusal}
use Rattle.lemonrudder.specs.Layouts.{laid, octets_of_request}
use Rattle.lemonrudder.specs.Outcomes.{interface_at}
use Rattle.lemonrudder.specs.Refusals.{filled}
use Rattle.lemonrudder.specs.Serves.{IsIdle}
use Rattle.lemonrudder.specs.Tickets.{named_by, ticket_of}

-- how many octets a body has: those that came, which are the first argument of an operation whose bodies are octets; or those of
-- arguments that are values, as of `_is_a`, in big order from place 0
abbrev pub size_of_values : Values → ℕ
size_of_values arguments = let n = length (octets_of_all Big arguments 0) in if nat_lt n (2 ^ 64) then n else 0

abbrev pub body_size : Values → ℕ
body_size arguments = option_map_or length (read_at octets_in 0 arguments) (size_of_values arguments)

-- it is raw: its types are nobody's
abbrev pub is_raw : Interface → Bool
is_raw raw_operation = true
is_raw _ = false

-- a head with what it says of the body: whether it is raw, its octets, their order, and their place
abbrev pub with_body : Interface → Values → RequestHead → RequestHead
with_body i arguments h = record h {
  is_raw = from_bool (is_raw i);
  body_size = body_size arguments;
  body_order = from_bool (unwrap_or (read_at boolean_of 1 arguments) false);
  body_at = unwrap_or (read_at ulong_of 2 arguments) 0;
}

-- the head of a request that waits, whose operation is this and which says this
abbrev pub head_of : Interface → Awaited → Question → RequestHead
head_of i w q = with_refusal w.refused (with_body i w.call.arguments (with_question q.version q.id q.wish q.contexts (record no_request { ticket = ticket_of w.number; connection = w.connection; key_size = length w.call.object_key; operation_size = length w.call.operation })))

-- the head of what waits is reported, as much of the struct as the room has, and 1; where nothing waits 0, and the room is as it was
abbrev pub OnAsked : (room new : List ℕ) → Serving → Serving → Result ℕ Refusal → Type 0
OnAsked room new s t r = (t ≡ s) × (IsIdle s → (r ≡ Ok 0) × (new ≡ room))
    × ((x : Settings) (held : ℕ → Holding) (calls : List Call) (past : List Event) (waiting : ℕ → List Waiter) (moment : ℕ) (octets written : List ℕ) (w : Awaited) → (a : AsksLate families_offer x held calls s.engine past waiting moment octets written w)
    → (r ≡ Ok 1) × (new ≡ laid (octets_of_request (head_of (interface_at s w) w a.asks.question)) room))

-- octets are copied to the front of a room, as many as it has, and how many they are is returned
abbrev pub Tells : List ℕ → (room new : List ℕ) → Result ℕ Refusal → Type 0
Tells octets room new r = (r ≡ Ok (length octets)) × (new ≡ filled octets room)

-- nothing is reported
abbrev pub TellsNone : Refusal → (room new : List ℕ) → Result ℕ Refusal → Type 0
TellsNone e room new r = (r ≡ Err e) × (new ≡ room)

abbrev pub TellsIfSome : Option (List ℕ) → (room new : List ℕ) → Result ℕ Refusal → Type 0
TellsIfSome (Some octets) room new r = Tells octets room new r
TellsIfSome None room new r = TellsNone refusal.None room new r

-- arguments that are values, in big order from place 0, for which no memory is taken where they have no octets
abbrev pub TellsValues : Values → (room new : List ℕ) → Result ℕ Refusal → Type 0
TellsValues arguments room new r =
    (AreWritable arguments → ((0 < length (octets_of_all Big arguments 0)) × TellsNone refusal.Memory room new r) ⊎ Tells (octets_of_all Big arguments 0) room new r)
    × (¬ (AreWritable arguments) → TellsNone refusal.None room new r)

-- the body: the octets that came; or arguments that are values
abbrev pub TellsCame : Option (List ℕ) → Values → (room new : List ℕ) → Result ℕ Refusal → Type 0
TellsCame (Some octets) arguments room new r = Tells octets room new r
TellsCame None arguments room new r = TellsValues arguments room new r

abbrev pub TellsBody : Values → (room new : List ℕ) → Result ℕ Refusal → Type 0
TellsBody arguments room new r = TellsCame (read_at octets_in 0 arguments) arguments room new r

-- the client id, if the request carries one
abbrev pub client_of : Field → Option (List ℕ)
client_of Absent = None
client_of Bad = None
client_of (Present key expiration) = Some key.client_id

-- of a request that is found this is told
abbrev pub TellsFound : Result (Found × Awaited) Refusal → (room new : List ℕ) → Result ℕ Refusal → (Awaited → Type 0) → Type 0
TellsFound (Err e) room new r Does = TellsNone e room new r
TellsFound (Ok x) room new r Does = Does x.1

-- a part of the request of a ticket, which waits or is parked, is reported: its object key, its operation, its body or its client id
abbrev pub OnPart : (ticket part : ℕ) → (room new : List ℕ) → Serving → Serving → Result ℕ Refusal → Type 0
OnPart ticket part room new s t r = (t ≡ s) × TellsFound (named_by ticket (waits_in s.engine) (parked_in s.engine)) room new r (λ w.
    (part ≡ 0 → Tells w.call.object_key room new r) × (part ≡ 1 → Tells w.call.operation room new r)
    × (part ≡ 2 → TellsBody w.call.arguments room new r) × (part ≡ 3 → TellsIfSome (client_of w.field) room new r) × (3 < part → TellsNone refusal.None room new r))
