use Rattle.std.proofs.Common.{rules}
use Rattle.counter.proofs.servant.CounterServant.has_object.Goals as goal

pub returns : goal.returns
returns c = search rules
