use Rattle.std.proofs.Common.{None}
use Rattle.ft_objects.proofs.Named.{at_changed}
use Rattle.ft_objects.proofs.keyed.take.Goals as goal

pub returns-clause-gone : goal.returns-clause-gone
returns-clause-gone g c = at_changed c.args.map.now c.remove.new.self c.args.key.now None c.remove.ensures.updates.1 c.remove.ensures.updates.3
