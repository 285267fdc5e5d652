-- Service contexts of replies to come, which are said before an answer.
use Rattle.std.specs.Prelude.{◌≡◌, ◌==◌, ◌⊎◌, ℕ, ◌<◌, if◌then◌else◌, List, [], ◌∷◌, length, map, Option, Some, None, Result, Ok, Err}
use Rattle.std.proofs.Common.{Bor, Vec, Global}
use Rattle.cdr_core.specs.declared.order.Order.{Order}
use Rattle.ft_log.specs.Performed.{Performed}
use Rattle.giop_core.specs.Items.{item_at}
use Rattle.ft_orb.specs.declared.answering.Asker.{Asker}
use Rattle.ft_orb.specs.declared.parked.Waiter.{Waiter}
use Rattle.ft_orb.specs.Carrying.{CanCarry}
use Rattle.lemonrudder.specs.declared.refusal.Refusal.{Refusal}
use Rattle.lemonrudder.specs.declared.refusal.Refusal.TheVariants as refusal
use Rattle.lemonrudder.specs.declared.serving.replying.Said.{Said}
use Rattle.lemonrudder.specs.RawCalls.{AreContexts, AreNoContexts}

-- service contexts: the id and the data of each
abbrev pub Contexts : Type 0
Contexts = List (ℕ × List ℕ)

-- what was said for a ticket
abbrev pub said_for : ℕ → Option Said → Option Said
said_for ticket None = None
said_for ticket (Some x) = if x.ticket == ticket then Some x else None

-- .. and what is left once an answer of the ticket has taken that
abbrev pub left_for : ℕ → Option Said → Option Said
left_for ticket None = None
left_for ticket (Some x) = if x.ticket == ticket then None else Some x

-- the service contexts that were said; none where nothing was
abbrev pub AreSaid : Option Said → Contexts → Type 0
AreSaid None all = all ≡ []
AreSaid (Some x) all = AreContexts x.order all x.octets.items

-- a reply carries them where it can, and else none
abbrev pub AreCarried : (said carried : Contexts) → Option Asker → Option Performed → Type 0
AreCarried said carried asker outcome = (CanCarry said asker outcome → carried ≡ said) × (¬ (CanCarry said asker outcome) → carried ≡ [])

-- .. and so does each by which who waits is told an outcome
abbrev pub Carries : (said : Contexts) → Performed → (Waiter → Contexts) → Type 0
Carries said outcome carried = (w : Waiter) → AreCarried said (carried w) (Some w.asker) (Some outcome)

-- these octets are kept for a ticket: nothing, where there are none
abbrev pub IsSaid : ℕ → Order → List ℕ → Option Said → Type 0
IsSaid ticket order [] said = said ≡ None
IsSaid ticket order (octet ∷ octets) said = (x : Said) × (said ≡ Some x) × (x.ticket ≡ ticket) × (x.order ≡ order) × (x.octets.items ≡ octet ∷ octets)

-- why octets are not kept: they are no service contexts, or they are, and memory is short
abbrev pub IsWhyUnsaid : Order → List ℕ → Refusal → Type 0
IsWhyUnsaid order octets e = AreNoContexts order octets e ⊎ ((e ≡ refusal.Memory) × (0 < length octets) × (all : Contexts) × AreContexts order all octets)

-- Words of private functions.

-- octets that are service contexts are kept; or they are not
abbrev pub SaysOf : ℕ → Order → List ℕ → Result (Option Said) Refusal → Type 0
SaysOf ticket order octets (Ok said) = ((all : Contexts) × AreContexts order all octets) × IsSaid ticket order octets said
SaysOf ticket order octets (Err e) = IsWhyUnsaid order octets e

-- what was said is lent; or memory is short, where something was
abbrev pub AreLent : Option Said → Result (Vec (ℕ × Bor (List ℕ)) Global) Refusal → Type 0
AreLent said (Ok v) = AreSaid said (map item_at v.items)
AreLent None (Err e) = ⊥
AreLent (Some x) (Err e) = e ≡ refusal.Memory
