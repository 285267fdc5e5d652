use Rattle.std.proofs.Common.{◌≡◌, None, length}
use Rattle.ft_orb.specs.Engines.{waits_in}
use Rattle.uses.proofs.durable.feed.Given as goal

-- no request waits
abbrev pub invariant-loop-left : goal.invariant-loop-left
invariant-loop-left g l = waits_in l.engine ≡ None

-- up to each request that waits some octets are taken
abbrev pub decreases-loop-left : goal.decreases-loop-left
decreases-loop-left g l = length l.left
