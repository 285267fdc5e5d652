use Rattle.std.proofs.Common.{◌≡◌, None}
use Rattle.ft_orb.specs.Engines.{waits_in}
use Rattle.ft_orb.specs.Parking.{left_in}
use Rattle.uses.proofs.later.settle.Given as goal

-- no request waits
abbrev pub invariant-loop-connection : goal.invariant-loop-connection
invariant-loop-connection l = waits_in l.engine ≡ None

-- with each reply one waits less
abbrev pub decreases-loop-connection : goal.decreases-loop-connection
decreases-loop-connection l = left_in l.engine l.number
