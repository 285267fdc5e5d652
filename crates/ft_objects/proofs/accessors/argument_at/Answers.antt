use Rattle.ft_objects.proofs.BasicValues.{lent}
use Rattle.ft_objects.proofs.accessors.argument_at.Goals as goal

pub returns : goal.returns
returns c = lent c.get.result c.args.arguments.now c.args.index c.get.ensures.lookup.0 c.get.ensures.lookup.1
