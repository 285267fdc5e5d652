use Rattle.std.proofs.Common.{rules}
use Rattle.counter.proofs.servant.Counter.total.Goals as goal

pub returns : goal.returns
returns c = search rules
