use Rattle.std.proofs.Common.{ℕ, ◌-◌, ◌≤◌, ◌++◌, List, length, take}
use Rattle.giop_frames.specs.Standing.{StandsFor}
use Rattle.giop_trials.proofs.feeding.feed_octets.Given as goal

-- the assembler stands for what it stood for, with the octets that were taken
abbrev pub invariant-loop-taken : goal.invariant-loop-taken
invariant-loop-taken l = record {
  within : l.taken ≤ length l.octets;
  stands : (s : List ℕ) → StandsFor l.fn.assembler s → StandsFor l.assembler (s ++ take l.taken l.octets);
}

-- at least one octet is taken each time
abbrev pub decreases-loop-taken : goal.decreases-loop-taken
decreases-loop-taken l = length l.octets - l.taken
