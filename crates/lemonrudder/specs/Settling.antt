-- What a call does that answers a request that is parked, or declines it: all who wait are told.
use Rattle.std.specs.Prelude.{◌≡◌, ◌==◌, ℕ, ◌<◌, false, List, [], ◌∷◌, length, None, Result, Ok}
use Rattle.ft_log.specs.Holding.{Holding, known, parked}
use Rattle.ft_log.specs.Performed.{Performed}
use Rattle.ft_objects.specs.Families.{families_offer}
use Rattle.ft_orb.specs.declared.parked.Waiter.{Waiter}
use Rattle.ft_orb.specs.declared.unkept.Unkept.{Unkept}
use Rattle.ft_orb.specs.Decisions.{settled_unkept}
use Rattle.ft_orb.specs.Deeds.{Told}
use Rattle.ft_orb.specs.Engines.{counts_in}
use Rattle.ft_orb.specs.History.{Withdrew}
use Rattle.ft_orb.specs.Parking.{CanSettle, Settings, Stays, parked_at, parked_in, put_at, told_in}
use Rattle.ft_orb.specs.Requests.{Call}
use Rattle.lemonrudder.specs.declared.refusal.Refusal.{Refusal}
use Rattle.lemonrudder.specs.declared.refusal.Refusal.TheVariants as refusal
use Rattle.lemonrudder.specs.declared.serving.Serving.{Serving}
use Rattle.lemonrudder.specs.Late.{WhereStays}
use Rattle.lemonrudder.specs.Replying.{Carries, Contexts}
use Rattle.lemonrudder.specs.Serves.{IsIdle, IsRefused, KeepsCatalogue, KeepsTickets}
use Rattle.lemonrudder.specs.Tallied.{one_settled}
use Rattle.lemonrudder.specs.Telling.{AreTold, Scene}

-- all that is parked stays as it is, but for what is under number n, where nothing is any more
abbrev pub Unparks : ℕ → Serving → Serving → Type 0
Unparks n s t = (parked_in t.engine n ≡ None) × ((q : ℕ) → (q == n) ≡ false → (parked_in t.engine q ≡ parked_in s.engine q) × (told_in t.engine q ≡ told_in s.engine q))

-- the outcome is kept, if it is to be: it is that of the call that was parked under the number, and all who waited were told, by replies that
-- carry what was said where they can
abbrev pub SettlesLate : (n : ℕ) → Performed → (said : Contexts) → Serving → Serving → Type 0
SettlesLate n outcome said s t = WhereStays s (λ x held calls past waiting. (i : ℕ) × (i < length calls) × (held i ≡ parked n)
    × (told : List Told) × (last : Scene) × ((carried : Waiter → Contexts) × Carries said outcome carried × AreTold x held calls n carried outcome told (record { past = past; waiting = waiting }) last s t) × (last.waiting n ≡ [])
    × Stays families_offer x (put_at i (known outcome) held) calls t.engine last.past last.waiting)

-- .. or nothing is kept for that call any more
abbrev pub WithdrawsLate : (n : ℕ) → Performed → Serving → Serving → Type 0
WithdrawsLate n outcome s t = WhereStays s (λ x held calls past waiting. (i : ℕ) × (i < length calls) × (held i ≡ parked n)
    × (told : List Told) × (last : Scene) × AreTold x held calls n (λ w. []) outcome told (record { past = Withdrew i ∷ past; waiting = waiting }) last s t × (last.waiting n ≡ [])
    × Stays families_offer x (put_at i (known outcome) held) calls t.engine last.past last.waiting)

-- an outcome of the request that is parked under a number is handed in, and n is answered
abbrev pub Settles : (number n : ℕ) → Performed → (said : Contexts) → Serving → Serving → Result ℕ Refusal → Type 0
Settles number n outcome said s t r = (r ≡ Ok n) × IsIdle t × KeepsCatalogue s t × KeepsTickets s t × Unparks number s t × SettlesLate number outcome said s t × (counts_in t.engine ≡ one_settled (counts_in s.engine))

-- It is told this, and nothing of it is kept: not where that can't be its outcome, as its operation is on offer now.
abbrev pub Withdraws : Unkept → (number : ℕ) → Performed → Serving → Serving → Result ℕ Refusal → Type 0
Withdraws u number outcome s t r = let Can = CanSettle (families_offer s.engine.offering.catalogue) (parked_at s.engine number) outcome in
    (¬ Can → IsRefused refusal.Outcome s t r)
    × (Can → (r ≡ Ok 0) × IsIdle t × KeepsCatalogue s t × KeepsTickets s t × Unparks number s t × WithdrawsLate number outcome s t × (counts_in t.engine ≡ settled_unkept u (counts_in s.engine)))

-- Words of private functions.

-- All who waited under a number were told, and the outcome is that of the call that was parked under it.
pub record TellsAll (x : Settings) (held : ℕ → Holding) (calls : List Call) (n : ℕ) (carried : Waiter → Contexts) (outcome : Performed) (g : Scene) (s t : Serving) : Type 0 where
  pub i : ℕ
  pub taken : i < length calls
  pub was : held i ≡ parked n
  pub told : List Told
  pub last : Scene
  pub are_told : AreTold x held calls n carried outcome told g last s t
  pub none : last.waiting n ≡ []
  pub stays : Stays families_offer x (put_at i (known outcome) held) calls t.engine last.past last.waiting
