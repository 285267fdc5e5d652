-- The ticket of a request that waits, or is parked.
use Rattle.std.specs.Prelude.{◌≡◌, ℕ, ◌+◌, ◌-◌, ◌==◌, if◌then◌else◌, min, Option, Some, None, Result, Ok, Err}
use Rattle.ft_orb.specs.declared.asked.Asked.{Asked}
use Rattle.ft_orb.specs.Engines.{Awaited, awaited_lent}
use Rattle.lemonrudder.specs.declared.refusal.Refusal.{Refusal}
use Rattle.lemonrudder.specs.declared.refusal.Refusal.TheVariants as refusal
use Rattle.lemonrudder.specs.declared.serving.questions.Called.{Called}
use Rattle.lemonrudder.specs.declared.serving.questions.Found.{Found}
use Rattle.lemonrudder.specs.declared.serving.questions.Found.TheVariants.{Parked, Waits}

-- the ticket of a number: the number plus 1, as far as there is room for it (no request has a number for which there is none)
abbrev pub ticket_of : ℕ → ℕ
ticket_of number = min (number + 1) 18446744073709551615

-- what waits, where it has this ticket; or why a call by the ticket is refused
abbrev pub waiting_by : ℕ → Option Awaited → Result Awaited Refusal
waiting_by ticket None = Err refusal.Idle
waiting_by ticket (Some w) = if ticket_of w.number == ticket then Ok w else Err refusal.Ticket

-- what is parked under the number of a ticket
abbrev pub parked_by : ℕ → (lies : ℕ → Option Awaited) → Option Awaited
parked_by ticket lies = if ticket == 0 then None else lies (ticket - 1)

abbrev pub found_parked : ℕ → Option Awaited → Result (Found × Awaited) Refusal
found_parked ticket None = Err refusal.Ticket
found_parked ticket (Some w) = Ok (Parked (ticket - 1), w)

-- the request of a ticket, and where it is: it waits, or is parked, or there is none
abbrev pub named_by : ℕ → (waits : Option Awaited) → (lies : ℕ → Option Awaited) → Result (Found × Awaited) Refusal
named_by ticket None lies = found_parked ticket (parked_by ticket lies)
named_by ticket (Some w) lies = if ticket_of w.number == ticket then Ok (Waits w.number w.connection, w) else found_parked ticket (parked_by ticket lies)

-- .. of which an outcome may be said: not of one that is parked while another waits
abbrev pub called_if : (waits : Option Awaited) → Result (Found × Awaited) Refusal → Result (Found × Awaited) Refusal
called_if (Some w) (Ok (Parked n, x)) = Err refusal.Asking
called_if waits found = found

abbrev pub called_by : ℕ → (waits : Option Awaited) → (lies : ℕ → Option Awaited) → Result (Found × Awaited) Refusal
called_by ticket waits lies = called_if waits (named_by ticket waits lies)

-- Words of private functions.

-- what waits, as the code lends it
abbrev pub IsAskedBy : ℕ → Option Awaited → Result Asked Refusal → Type 0
IsAskedBy ticket waits (Ok asked) = waiting_by ticket waits ≡ Ok (awaited_lent asked)
IsAskedBy ticket waits (Err e) = waiting_by ticket waits ≡ Err e

-- .. and what was found
abbrev pub IsNamedBy : Result (Found × Awaited) Refusal → Result Called Refusal → Type 0
IsNamedBy x (Ok called) = x ≡ Ok (called.found, awaited_lent called.asked)
IsNamedBy x (Err e) = x ≡ Err e

-- what was found is what waits; or nothing waits, and it is parked
abbrev pub IsFound : Found → Option Awaited → Type 0
IsFound (Waits number c) None = ⊥
IsFound (Waits number c) (Some w) = (w.number ≡ number) × (w.connection ≡ c)
IsFound (Parked n) waits = waits ≡ None

-- .. or it is parked
abbrev pub IsFoundAt : Found → Option Awaited → Type 0
IsFoundAt (Waits number c) waits = IsFound (Waits number c) waits
IsFoundAt (Parked n) waits = Unit {0}

abbrev pub IsParkedOne : Found → Type 0
IsParkedOne (Waits number c) = ⊥
IsParkedOne (Parked n) = Unit {0}
