-- What is said of an outcome before it is handed in, and of the replies that tell it.
use Rattle.std.specs.Prelude.{◌≡◌, ◌⊎◌, ℕ, List, Option, Some, None, Result, Ok, Err}
use Rattle.cdr_core.specs.declared.order.Order.{Order}
use Rattle.cdr_core.specs.Form.{Forms}
use Rattle.cdr_core.specs.Value.{Values}
use Rattle.ft_log.specs.declared.outcome.RawStatus.TheVariants.{NoException, UserException}
use Rattle.ft_log.specs.Performed.{raw}
use Rattle.ft_orb.specs.Engines.{Awaited, waits_in}
use Rattle.ft_orb.specs.Parking.{parked_in}
use Rattle.lemonrudder.specs.declared.refusal.Refusal.{Refusal}
use Rattle.lemonrudder.specs.declared.refusal.Refusal.TheVariants as refusal
use Rattle.lemonrudder.specs.declared.serving.Serving.{Serving}
use Rattle.lemonrudder.specs.declared.serving.questions.Found.{Found}
use Rattle.lemonrudder.specs.Naming.{order_named}
use Rattle.lemonrudder.specs.Outcomes.{AreMembers, AreResults, ByName, CanBe, MayBeRaised, exception_octets, interface_at, member_types}
use Rattle.lemonrudder.specs.Questions.{Tells, TellsNone}
use Rattle.lemonrudder.specs.RawCalls.{AreContexts}
use Rattle.lemonrudder.specs.Replying.{Contexts, IsSaid, IsWhyUnsaid}
use Rattle.lemonrudder.specs.Serves.{ByFound, KeepsDue, KeepsNotes}
use Rattle.lemonrudder.specs.Spelled.{AreValues}
use Rattle.lemonrudder.specs.Tickets.{named_by}

-- a call by a ticket is refused where nothing that waits or is parked has it, and else does this by what has it
abbrev pub ByNamed : ℕ → Serving → Serving → Result ℕ Refusal → (Found → Awaited → Type 0) → Type 0
ByNamed ticket s t r Does = ByFound (named_by ticket (waits_in s.engine) (parked_in s.engine)) s t r Does

-- octets are results of the operation, and may be the outcome; or they are refused. Nothing changes
abbrev pub JudgesResults : Order → List ℕ → Serving → Serving → Result ℕ Refusal → Found → Awaited → Type 0
JudgesResults order octets s t r found w = let Can = AreResults (interface_at s w) order octets × CanBe found (raw NoException order octets) s in
    (t ≡ s) × (Can → r ≡ Ok 0) × (¬ Can → r ≡ Err refusal.Outcome)

-- it is told whether octets are results that can be handed in (`OnAnswer`, and `OnAnswerRaw` as the body of no exception)
abbrev pub OnCanAnswer : (ticket order : ℕ) → List ℕ → Serving → Serving → Result ℕ Refusal → Type 0
OnCanAnswer ticket order octets s t r = ByName (order_named order) s t r (λ o. ByNamed ticket s t r (JudgesResults o octets s t r))

-- the body that raises an exception is told, if it may be the outcome
abbrev pub TellsIfCan : Found → Order → (body room new : List ℕ) → Serving → Result ℕ Refusal → Type 0
TellsIfCan found order body room new s r =
    (CanBe found (raw UserException order body) s → Tells body room new r) × (¬ (CanBe found (raw UserException order body) s) → TellsNone refusal.Outcome room new r)

-- .. which raises one whose members are these octets; or memory is short, which only values of its types take, and no body that is too long
abbrev pub TellsException : Found → List ℕ → Option Forms → Order → (octets room new : List ℕ) → Serving → Result ℕ Refusal → Type 0
TellsException found id None order octets room new s r = TellsNone refusal.Outcome room new r
TellsException found id (Some types) order octets room new s r = (AreValues types order octets × MayBeRaised id octets × TellsNone refusal.Memory room new r)
    ⊎ (((vs : Values) → AreMembers id types order octets vs → TellsIfCan found order (exception_octets order id vs) room new s r)
    × (((vs : Values) → ¬ (AreMembers id types order octets vs)) → TellsNone refusal.Outcome room new r))

-- .. of the operation
abbrev pub TellsBody : List ℕ → Order → (octets room new : List ℕ) → Serving → Serving → Result ℕ Refusal → Found → Awaited → Type 0
TellsBody id order octets room new s t r found w = (t ≡ s) × TellsException found id (member_types id (interface_at s w)) order octets room new s r

-- the body is told by which `OnRaise` answers the request of a ticket, which waits or is parked
abbrev pub OnException : ℕ → List ℕ → ℕ → (octets room new : List ℕ) → Serving → Serving → Result ℕ Refusal → Type 0
OnException ticket id order octets room new s t r = ByName (order_named order) s t r (λ o. ByNamed ticket s t r (TellsBody id o octets room new s t r))

-- service contexts are said for the replies that the next answer of a ticket makes due, and nothing else changes; or octets are none, or memory
-- is short, and nothing has changed
abbrev pub Says : ℕ → Order → List ℕ → Serving → Serving → Result ℕ Refusal → Type 0
Says ticket order octets s t (Ok n) = (n ≡ 0) × ((all : Contexts) × AreContexts order all octets) × (t.engine ≡ s.engine) × KeepsDue s t × KeepsNotes s t × (t.setup ≡ record s.setup { said = t.setup.said }) × IsSaid ticket order octets t.setup.said
Says ticket order octets s t (Err e) = (t ≡ s) × IsWhyUnsaid order octets e

-- .. of a request that waits or is parked
abbrev pub OnReplyContexts : (ticket order : ℕ) → List ℕ → Serving → Serving → Result ℕ Refusal → Type 0
OnReplyContexts ticket order octets s t r = ByName (order_named order) s t r (λ o. ByNamed ticket s t r (λ found w. Says ticket o octets s t r))
