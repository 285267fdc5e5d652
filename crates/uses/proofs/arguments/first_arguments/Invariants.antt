use Rattle.std.proofs.Common.{length, ◌-◌, ◌≤◌}
use Rattle.uses.proofs.arguments.first_arguments.Given as goal

abbrev pub invariant-loop-taken : goal.invariant-loop-taken
invariant-loop-taken l = l.taken ≤ length l.octets

-- at least one octet is taken each time
abbrev pub decreases-loop-taken : goal.decreases-loop-taken
decreases-loop-taken l = length l.octets - l.taken
