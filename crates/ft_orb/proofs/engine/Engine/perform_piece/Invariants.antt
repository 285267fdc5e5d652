use Rattle.std.proofs.Common.{◌≡◌, ◌≤◌, ◌-◌, None, List, length}
use Rattle.ft_orb.specs.Engines.{shown_in, waits_in}
use Rattle.ft_orb.specs.History as history
use Rattle.ft_orb.specs.Outputs.{Made}
use Rattle.ft_orb.specs.Performing.{IsDoneTo, IsFree}
use Rattle.ft_orb.specs.Standing.{Stands}
use Rattle.ft_orb.proofs.engine.Engine.perform_piece.Given as goal

-- the octets so far were served
abbrev pub invariant-loop-part : goal.invariant-loop-part
invariant-loop-part g l = record {
  within : l.done.taken ≤ length l.piece;
  few : l.done.handled ≤ l.done.taken;
  idle : waits_in l.self ≡ None;
  free : IsFree l.self;
  goes : (made : Made g.row.S.Denot) (past : List history.Event) → Stands g.S.Servant.meaning made (shown_in l.fn.self) past → IsDoneTo g.S.Servant.meaning made past l.connection l.moment l.piece l.done (shown_in l.self) l.fn.out.items l.out.items;
}

abbrev pub decreases-loop-part : goal.decreases-loop-part
decreases-loop-part g l = length l.piece - l.done.taken
