use Rattle.std.proofs.Common.{◌≡◌, ◌+◌, ◌≤◌, drop, map}
use Rattle.giop_core.specs.Items.{item_at}
use Rattle.ft_orb.proofs.Listed.{taking}
use Rattle.ft_orb.proofs.carrying.end_of_contexts.Given as goal

-- the place so far, and what is left from there, give the whole
abbrev pub invariant-loop-one : goal.invariant-loop-one
invariant-loop-one l = record {
  whole : l.end + taking (map item_at (drop l.one-index l.contexts)) l.end ≡ 16 + taking (map item_at l.contexts) 16;
  short : l.end ≤ 1048588;
}
