use Rattle.std.proofs.Common.{refl}
use Rattle.lemonrudder.proofs.calling.Calling.lost.Goals as goal

pub returns-clause-lost : goal.returns-clause-lost
returns-clause-lost c = (refl, λ x st. record { client = c.lost.ensures.stands x.client st.client; placed = c.drop_all.ensures.placed; due = c.drop_all.ensures.owed; last = st.last })
