use Rattle.std.proofs.Common.{◌≤◌, ◌-◌, length, take}
use Rattle.ft_orb.specs.Sessions.{TookAll}
use Rattle.ft_orb.proofs.hosting.write_all.Given as goal

-- the wire took the octets so far
abbrev pub invariant-loop-taken : goal.invariant-loop-taken
invariant-loop-taken g l = record {
  within : l.taken ≤ length l.octets;
  wired : TookAll (take l.taken l.octets) (g.W.Wire.traffic l.fn.wire) (g.W.Wire.traffic l.wire);
}

abbrev pub decreases-loop-taken : goal.decreases-loop-taken
decreases-loop-taken g l = length l.octets - l.taken
