use Rattle.std.proofs.Common.{◌≡◌, None, length}
use Rattle.ft_orb.specs.Engines.{waits_in}
use Rattle.giop_run.proofs.host.Host.feed.Given as goal

-- no request waits
abbrev pub invariant-loop-left : goal.invariant-loop-left
invariant-loop-left l = waits_in l.self.engine ≡ None

-- up to each request that is asked for or repeated some octets are taken
abbrev pub decreases-loop-left : goal.decreases-loop-left
decreases-loop-left l = length l.left
