use Rattle.std.proofs.Common.{refl}
use Rattle.lemonrudder.proofs.Clients.{stands_silent}
use Rattle.lemonrudder.proofs.calling.Calling.tick.Goals as goal

pub returns : goal.returns
returns c = (refl, λ x st. stands_silent c.args.self.now c.tick.new.self x _ st (c.tick.ensures x.client st.client))
