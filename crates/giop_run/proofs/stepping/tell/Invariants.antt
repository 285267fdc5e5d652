use Rattle.std.proofs.Common.{◌≡◌, None}
use Rattle.ft_orb.specs.Engines.{waits_in}
use Rattle.ft_orb.specs.Parking.{left_in}
use Rattle.giop_run.proofs.stepping.tell.Given as goal

-- no request waits
abbrev pub invariant-loop-connection : goal.invariant-loop-connection
invariant-loop-connection g l = waits_in l.host.engine ≡ None

-- with each reply one waits less
abbrev pub decreases-loop-connection : goal.decreases-loop-connection
decreases-loop-connection g l = left_in l.host.engine l.number
