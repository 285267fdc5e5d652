use Rattle.std.proofs.Common.{◌≡◌, ◌==◌, ℕ, ◌+◌, ◌≤◌, None, Some, false, length}
use Rattle.std.specs.Vec.{vec_capacity}
use Rattle.ft_log.specs.Performed.{Performed}
use Rattle.ft_orb.specs.Deeds.{Ledger}
use Rattle.ft_orb.specs.Engines.{asks_in, waits_in}
use Rattle.ft_orb.specs.Parking.{Settings, Stays, left_in, parked_in, told_in}
use Rattle.ft_orb.proofs.Acting.{IsTelling}
use Rattle.ft_orb.proofs.telling.tell_all.Given as goal

-- so far they were told, and there is room for the rest
abbrev pub invariant-loop-connection : goal.invariant-loop-connection
invariant-loop-connection g l = record {
  idle : waits_in l.engine ≡ None;
  room : length l.out.items + left_in l.engine l.number ≤ vec_capacity l.out;
  asks : asks_in l.engine ≡ asks_in l.fn.engine;
  catalogue : l.engine.offering ≡ l.fn.engine.offering;
  telling : told_in l.engine l.number ≡ told_in l.fn.engine l.number;
  others : (q : ℕ) → (q == l.number) ≡ false → (parked_in l.engine q ≡ parked_in l.fn.engine q) × (told_in l.engine q ≡ told_in l.fn.engine q);
  told : (s : Settings) (h : Ledger) (outcome : Performed) → Stays g.C.Catalogue.offers s h.held h.calls l.fn.engine h.past h.waiting → told_in l.fn.engine l.number ≡ Some outcome
      → IsTelling g.C.Catalogue.offers s h l.number outcome l.engine l.fn.out.items l.out.items;
}

-- with each reply one waits less
abbrev pub decreases-loop-connection : goal.decreases-loop-connection
decreases-loop-connection g l = left_in l.engine l.number
