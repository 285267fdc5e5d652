-- What a call does that parks the request that waits, and what is reported of those that are parked, and of the connections on which
-- octets came due for them.
use Rattle.std.specs.Prelude.{◌≡◌, ◌==◌, ◌⊎◌, ℕ, ◌≤◌, false, List, [], ◌∷◌, ◌++◌, length, None, Some, Result, Ok, Err}
use Rattle.ft_log.specs.Holding.{Holding, parked}
use Rattle.ft_objects.specs.Families.{families_offer}
use Rattle.ft_orb.specs.declared.events.Note.TheVariants.{Done}
use Rattle.ft_orb.specs.declared.parked.Waiter.{Waiter}
use Rattle.ft_orb.specs.Engines.{Awaited, counts_in, waits_in}
use Rattle.ft_orb.specs.History.{Event}
use Rattle.ft_orb.specs.Parking.{AreParked, AsksLate, ResumesLate, Settings, own_of, parked_count, parked_in, parked_of, places_of, places_of_one, put_at, told_in}
use Rattle.ft_orb.specs.Requests.{Call}
use Rattle.lemonrudder.specs.declared.refusal.Refusal.{Refusal}
use Rattle.lemonrudder.specs.declared.refusal.Refusal.TheVariants as refusal
use Rattle.lemonrudder.specs.declared.serving.Serving.{Serving}
use Rattle.lemonrudder.specs.Late.{WhereAsks}
use Rattle.lemonrudder.specs.Serves.{ByTicket, IsIdle, IsSame, KeepsCatalogue, KeepsDue, KeepsEndings, KeepsNotes, KeepsTickets}
use Rattle.lemonrudder.specs.Tallied.{one_parked}

-- no more may be parked, in all or of those that came on the connection
abbrev pub HasNoPlace : Awaited → Serving → Type 0
HasNoPlace w s = (places_of s.engine ≤ parked_count s.engine) ⊎ (places_of_one s.engine ≤ parked_of s.engine w.connection)

-- memory is short, the request waits still, and nothing is counted
abbrev pub WaitsStill : Serving → Serving → Result ℕ Refusal → Type 0
WaitsStill s t r = (r ≡ Err refusal.Memory) × (waits_in t.engine ≡ waits_in s.engine) × AreParked s.engine t.engine
    × WhereAsks s (λ x held calls past waiting moment octets written w. AsksLate families_offer x held calls t.engine past waiting moment octets written w)
    × (counts_in t.engine ≡ counts_in s.engine)

-- it is parked under its number, all else that is parked stays, and who asks waits for its outcome where an answer is wished for
abbrev pub IsParked : Awaited → Serving → Serving → Result ℕ Refusal → Type 0
IsParked w s t r = (r ≡ Ok 0) × IsIdle t × (parked_in t.engine w.number ≡ Some w) × (told_in t.engine w.number ≡ None)
    × ((q : ℕ) → (q == w.number) ≡ false → (parked_in t.engine q ≡ parked_in s.engine q) × (told_in t.engine q ≡ told_in s.engine q))
    × ((x : Settings) (held : ℕ → Holding) (calls : List Call) (past : List Event) (waiting : ℕ → List Waiter) (moment : ℕ) (octets written : List ℕ) (v : Awaited) → (a : AsksLate families_offer x held calls s.engine past waiting moment octets written v)
    → ResumesLate families_offer x (put_at (length calls) (parked v.number) held) (calls ++ v.call ∷ []) past (put_at v.number (own_of v.connection a.asks.question) waiting) v.connection moment octets written Done t.engine [] [])
    × (counts_in t.engine ≡ one_parked (counts_in s.engine))

-- the request of a ticket is parked, which waits
abbrev pub OnPark : ℕ → Serving → Serving → Result ℕ Refusal → Type 0
OnPark ticket s t r = ByTicket ticket s t r (λ w. (HasNoPlace w s → (r ≡ Err refusal.Parks) × IsSame s t)
    × (¬ (HasNoPlace w s) → KeepsDue s t × KeepsNotes s t × KeepsCatalogue s t × KeepsTickets s t × KeepsEndings s t × (WaitsStill s t r ⊎ IsParked w s t r)))

-- how many are parked is reported ..
abbrev pub OnParked : Serving → Serving → Result ℕ Refusal → Type 0
OnParked s t r = (t ≡ s) × (r ≡ Ok (parked_count s.engine))

-- .. and how many of those that came on a connection
abbrev pub OnParkedOf : ℕ → Serving → Serving → Result ℕ Refusal → Type 0
OnParkedOf c s t r = (t ≡ s) × (r ≡ Ok (parked_of s.engine c))

-- The first of the connections that are named is reported, and is named no more; where there is none the number is as it was, and
-- nothing has changed.
abbrev pub OnNextDue : (before after : ℕ) → Serving → Serving → Result ℕ Refusal → Type 0
OnNextDue before after s t r = (t.engine ≡ s.engine) × (t.setup ≡ s.setup) × (t.connections ≡ s.connections)
    × (s.ready.keys ≡ [] → (r ≡ Ok 0) × (after ≡ before) × (t.ready.keys ≡ []))
    × ((c : ℕ) (others : List ℕ) → s.ready.keys ≡ c ∷ others → (r ≡ Ok 1) × (after ≡ c) × (t.ready.keys ≡ others))
