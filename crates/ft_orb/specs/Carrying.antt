-- Replies that carry service contexts, which their owner gives.
use Rattle.std.specs.Prelude.{ℕ, ◌==◌, ◌%◌, ◌≤◌, ◌||◌, Bool, true, List, [], ◌∷◌, length, Option, Some, None, Result, Ok, Err, IsTrue, IfSome}
use Rattle.std.specs.Option.{option_map}
use Rattle.cdr_core.specs.Value.{Values}
use Rattle.cdr_core.specs.Writing.{octets_of}
use Rattle.cdr_core.specs.declared.order.Order.{Order}
use Rattle.cdr_core.specs.declared.order.Order.TheVariants.{Big}
use Rattle.giop_core.specs.Content.{Rest}
use Rattle.giop_core.specs.Items.{list_value}
use Rattle.giop_core.specs.Laws.{rest_after}
use Rattle.giop_core.specs.Written.{behind_header, message_octets, reply_fields}
use Rattle.giop_core.specs.declared.header.MessageKind.TheVariants.{Reply}
use Rattle.giop_core.specs.declared.header.Version.{Version}
use Rattle.ft_log.specs.Performed.{Performed, raw}
use Rattle.ft_orb.specs.declared.answering.Asker.{Asker}
use Rattle.ft_orb.specs.declared.engine.Engine.{Engine}
use Rattle.ft_orb.specs.declared.parked.Parked.{Parked}
use Rattle.ft_orb.specs.declared.parked.Waiter.{Waiter}
use Rattle.ft_orb.specs.declared.pausing.Pending.{Pending}
use Rattle.ft_orb.specs.Engines.{pending_in}
use Rattle.ft_orb.specs.Parked.{going_in, on_going}
use Rattle.ft_orb.specs.Parking.{parked_at}
use Rattle.ft_orb.specs.Tellings.{Replied, Telling, octets_if, reply_told}

-- GIOP 9.4.3: a Reply with service contexts
abbrev pub reply_carrying : List (ℕ × List ℕ) → Version → Order → (id status : ℕ) → Values → List ℕ
reply_carrying contexts version order id status body = message_octets version Reply order (behind_header version Reply order (reply_fields version id status contexts) body)

-- the octets of what is told, if anything: a Reply with these contexts
abbrev pub octets_carrying : List (ℕ × List ℕ) → Option Telling → List ℕ
octets_carrying contexts (Some (Replied version order id status body)) = reply_carrying contexts version order id status body
octets_carrying contexts told = octets_if told

-- by the wish of who asks no Reply, or one without its results, or the whole one, with these contexts
abbrev pub reply_with : List (ℕ × List ℕ) → Asker → Performed → List ℕ
reply_with contexts asker p = octets_carrying contexts (reply_told asker.wish asker.version asker.request_id p)

-- .. where somebody asks, and there is an outcome
abbrev pub reply_if : List (ℕ × List ℕ) → Option Asker → Option Performed → List ℕ
reply_if contexts (Some asker) (Some p) = reply_with contexts asker p
reply_if contexts _ _ = []

-- octets that go out where nothing failed
abbrev pub unless_failed : {A E : Type 0} → Result A E → List ℕ → List ℕ
unless_failed (Ok x) octets = octets
unless_failed (Err e) octets = []

-- own rule: the most octets that the service contexts of a Reply take
abbrev pub contexts_limit : ℕ
contexts_limit = 1048576

-- they take no more, from the place 12 on
abbrev pub AreShort : List (ℕ × List ℕ) → Type 0
AreShort contexts = length (octets_of Big (list_value contexts) 12) ≤ contexts_limit

-- CDR 9.3.1: octets that come as a body were written for a place divisible by 8. Where the body has none, any place will do.
abbrev pub is_placed : Performed → Rest → Bool
is_placed (raw status order octets) body = length body.octets == 0 || body.place % 8 == 0
is_placed _ body = true

-- they can stand in the Reply that is told of an outcome; where none is told, any can
abbrev pub FitsTold : List (ℕ × List ℕ) → Performed → Option Telling → Type 0
FitsTold contexts p (Some (Replied version order id status body)) = AreShort contexts × IsTrue (is_placed p (rest_after version Reply order (reply_fields version id status contexts) body))
FitsTold contexts p told = Unit {0}

-- .. by the wish of who asks
abbrev pub FitsBehind : List (ℕ × List ℕ) → Asker → Performed → Type 0
FitsBehind contexts asker p = FitsTold contexts p (reply_told asker.wish asker.version asker.request_id p)

-- .. where somebody asks, and there is an outcome
abbrev pub CanCarry : List (ℕ × List ℕ) → Option Asker → Option Performed → Type 0
CanCarry contexts asker outcome = IfSome asker (λ k. IfSome outcome (λ p. FitsBehind contexts k p))

-- who asks in what waits, if something does
abbrev pub asker_in : {C : Type 0} → Engine C → Option Asker
asker_in e = option_map (λ (p : Pending). p.waiting.asker) (pending_in e)

-- the first of those who wait, if somebody does
abbrev pub first_of : List Waiter → Option Waiter
first_of [] = None
first_of (w ∷ later) = Some w

-- .. of those who wait for the outcome of what is parked so, on connections that go on: who is told it next
abbrev pub next_of : (goes : ℕ → Bool) → Option Parked → Option Waiter
next_of goes None = None
next_of goes (Some p) = first_of (on_going goes p.waiters.items)

abbrev pub next_in : {C : Type 0} → Engine C → ℕ → Option Waiter
next_in e n = next_of (going_in e.links) (parked_at e n)

-- the connection on which the next reply is due, and who asks there
abbrev pub due_on : {C : Type 0} → Engine C → ℕ → Option ℕ
due_on e n = option_map (λ (w : Waiter). w.connection) (next_in e n)

abbrev pub due_in : {C : Type 0} → Engine C → ℕ → Option Asker
due_in e n = option_map (λ (w : Waiter). w.asker) (next_in e n)
