use Rattle.std.proofs.Common.{◌-◌, ◌≤◌, length, take, None}
use Rattle.giop_proxy.specs.PassingPrivate.{IsPassed, Needs}
use Rattle.giop_proxy.proofs.passes.splitting.advance.Given as goal

abbrev pub invariant-loop-taken : goal.invariant-loop-taken
invariant-loop-taken l = record {
  in_range : l.taken ≤ length l.piece;
  needed : Needs l.limits l.frame.items l.needed;
  passes : IsPassed l.limits l.fn.frame.items l.fn.over (take l.taken l.piece) None l.frame.items l.over;
}

abbrev pub decreases-loop-taken : goal.decreases-loop-taken
decreases-loop-taken l = length l.piece - l.taken
