use Rattle.std.proofs.Common.{◌≡◌, drop}
use Rattle.ft_orb.specs.Carrying.{first_of}
use Rattle.ft_orb.specs.Parked.{going_in, on_going}
use Rattle.ft_orb.proofs.parked.Parked.first_going.Given as goal

-- nobody before this is due
abbrev pub invariant-loop-i : goal.invariant-loop-i
invariant-loop-i l = first_of (on_going (going_in l.links) (drop l.i l.self.waiters.items)) ≡ first_of (on_going (going_in l.links) l.self.waiters.items)
