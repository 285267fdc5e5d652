use Rattle.std.proofs.Common.{◌≡◌, ◌==◌, ℕ, List, Some, false, map}
use Rattle.ft_log.specs.Holding.{Holding}
use Rattle.ft_log.specs.Performed.{Performed}
use Rattle.ft_objects.specs.Families.{families_offer}
use Rattle.ft_orb.specs.declared.parked.Waiter.{Waiter}
use Rattle.ft_orb.specs.Deeds.{Told}
use Rattle.ft_orb.specs.Engines.{counts_in}
use Rattle.ft_orb.specs.History.{Event}
use Rattle.ft_orb.specs.Parking.{Settings, Stays, left_in, parked_in, told_in}
use Rattle.ft_orb.specs.Requests.{Call}
use Rattle.giop_core.specs.Items.{item_at}
use Rattle.lemonrudder.specs.Replying.{Carries, Contexts}
use Rattle.lemonrudder.specs.Serves.{IsIdle, KeepsCatalogue, KeepsTickets}
use Rattle.lemonrudder.specs.Telling.{AreTold, Scene}
use Rattle.lemonrudder.proofs.serving.Serving.tell_all.Given as goal

-- so far they were told
abbrev pub invariant-loop-connection : goal.invariant-loop-connection
invariant-loop-connection l = record {
  idle : IsIdle l.self;
  catalogue : KeepsCatalogue l.fn.self l.self;
  tickets : KeepsTickets l.fn.self l.self;
  counts : counts_in l.self.engine ≡ counts_in l.fn.self.engine;
  telling : told_in l.self.engine l.number ≡ told_in l.fn.self.engine l.number;
  others : (q : ℕ) → (q == l.number) ≡ false → (parked_in l.self.engine q ≡ parked_in l.fn.self.engine q) × (told_in l.self.engine q ≡ told_in l.fn.self.engine q);
  told : (x : Settings) (held : ℕ → Holding) (calls : List Call) (past : List Event) (waiting : ℕ → List Waiter) (outcome : Performed) (carried : Waiter → Contexts) → Carries (map item_at l.contexts) outcome carried → Stays families_offer x held calls l.fn.self.engine past waiting
      → told_in l.fn.self.engine l.number ≡ Some outcome → (told : List Told) × (h : Scene) × AreTold x held calls l.number carried outcome told (record { past = past; waiting = waiting }) h l.fn.self l.self
      × Stays families_offer x held calls l.self.engine h.past h.waiting;
}

-- with each who was told one waits less
abbrev pub decreases-loop-connection : goal.decreases-loop-connection
decreases-loop-connection l = left_in l.self.engine l.number
