use Rattle.cdr_core.proofs.Answered.{either_way}
use Rattle.cdr_core.proofs.laws.either_way.Goals as goal

pub returns : goal.returns
returns c = either_way
