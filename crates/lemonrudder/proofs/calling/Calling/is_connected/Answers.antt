use Rattle.std.proofs.Common.{Ok, ap, refl, rules}
use Rattle.lemonrudder.proofs.calling.Calling.is_connected.Goals as goal

pub returns : goal.returns
returns c = (refl, (c.is_connected.result, ap Ok (search rules), λ x st. c.is_connected.ensures.stands x.client st.client))
