use Rattle.std.proofs.Common.{ℕ, ◌-◌, ◌≤◌, ◌++◌, List, length, take}
use Rattle.giop_frames.specs.declared.limits.Limits.{Limits}
use Rattle.giop_link.specs.Linking.{LinkStands}
use Rattle.link_trials.proofs.hearing.feed_octets.Given as goal

-- the link stands for what it stood for, with the octets that were taken
abbrev pub invariant-loop-taken : goal.invariant-loop-taken
invariant-loop-taken l = record {
  within : l.taken ≤ length l.octets;
  stands : (limits : Limits) (s : List ℕ) → LinkStands limits l.fn.link s → LinkStands limits l.link (s ++ take l.taken l.octets);
}

-- at least one octet is taken each time
abbrev pub decreases-loop-taken : goal.decreases-loop-taken
decreases-loop-taken l = length l.octets - l.taken
