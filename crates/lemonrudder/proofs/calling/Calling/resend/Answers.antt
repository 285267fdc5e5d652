use Rattle.std.proofs.Common.{refl}
use Rattle.ft_client.specs.Clients.{Resent, parted}
use Rattle.lemonrudder.proofs.Clients.{stands_after, stands_unwritten}
use Rattle.lemonrudder.proofs.calling.Calling.resend.Goals as goal

pub returns-in-Ok : goal.returns-in-Ok
returns-in-Ok c = (
  refl,
  λ x st. stands_after (Resent c.args.now) c.args.self.now c.resend.new.self c.resend.new.out x st (c.in-Ok.ensures.stands x.client st.client) (c.in-Ok.ensures.out x.client st.client),
)

pub returns-in-Err : goal.returns-in-Err
returns-in-Err c = (
  refl,
  λ x st. stands_unwritten c.args.self.now c.resend.new.self c.resend.new.out x (parted x.client) st (c.in-Err.ensures.err x.client st.client) c.in-Err.ensures.unwritten,
  λ x st. c.in-Err.ensures.needed x.client st.client,
)
