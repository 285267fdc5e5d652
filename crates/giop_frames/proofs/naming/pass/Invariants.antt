use Rattle.std.proofs.Common.{◌≡◌, List, ℕ, ◌-◌}
use Rattle.giop_frames.specs.Naming.{IsAt, Passes}
use Rattle.giop_frames.proofs.naming.pass.Given as goal

-- as many are left as were not passed over
abbrev pub invariant-loop-passed : goal.invariant-loop-passed
invariant-loop-passed l = record {
  order : l.cursor.order ≡ l.fn.cursor.order;
  passes : (message : List ℕ) → IsAt l.fn.cursor message → Passes l.fn.cursor l.cursor l.count (l.count - l.passed) message;
}
