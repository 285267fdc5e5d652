use Rattle.std.proofs.Common.{rules, refl}
use Rattle.lemonrudder.proofs.serving.Serving.is_closed.Goals as goal

pub returns : goal.returns
returns c = (refl, c.is_closed.result, search rules, (c.is_closed.ensures.stays, c.is_closed.ensures.late))
