use Rattle.std.proofs.Common.{refl}
use Rattle.lemonrudder.proofs.Clients.{linked, stands_silent}
use Rattle.lemonrudder.proofs.calling.Calling.feed.Goals as goal

pub returns-in-Ok : goal.returns-in-Ok
returns-in-Ok c = (c.count_of.ensures, λ x st. stands_silent c.args.self.now c.feed.new.self x _ st (c.in-Ok.ensures.stands x.client st.client))

pub returns-in-Err : goal.returns-in-Err
returns-in-Err c = (refl, λ x st. let k = c.in-Err.ensures.err x.client st.client in (linked c.args.self.now.client.link x.client x.client.link st.client.link c.in-Err.ensures.link.0, k.0, k.1, record { client = k.2; placed = st.placed; due = st.due; last = st.last }))
