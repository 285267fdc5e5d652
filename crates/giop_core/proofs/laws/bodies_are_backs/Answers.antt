use Rattle.giop_core.proofs.Near.{message_back}
use Rattle.giop_core.proofs.laws.bodies_are_backs.Goals as goal

pub returns : goal.returns
returns c = message_back
