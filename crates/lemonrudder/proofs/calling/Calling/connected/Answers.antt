use Rattle.std.proofs.Common.{refl, subst}
use Rattle.ft_client.specs.Clients.{Joined, parted}
use Rattle.ft_client.specs.Standing.{FtStands}
use Rattle.lemonrudder.specs.Calls.{lost}
use Rattle.lemonrudder.proofs.Clients.{parted-twice, stands_after, stands_unwritten}
use Rattle.lemonrudder.proofs.calling.Calling.connected.Goals as goal

pub returns-in-Ok : goal.returns-in-Ok
returns-in-Ok c = (
  refl,
  λ x st.
      let gone = c.lost.ensures.lost.1 x st in
      stands_after (Joined c.args.now) c.lost.new.self c.connected.new.self c.connected.new.out (lost x) gone (c.in-Ok.ensures.stands (parted x.client) gone.client) (c.in-Ok.ensures.out (parted x.client) gone.client),
)

pub returns-in-Err : goal.returns-in-Err
returns-in-Err c = (
  refl,
  λ x st. let gone = c.lost.ensures.lost.1 x st in
      stands_unwritten c.lost.new.self c.connected.new.self c.connected.new.out (lost x) (parted x.client) gone (subst (FtStands c.connected.new.self) (parted-twice x.client) (c.in-Err.ensures.err (parted x.client) gone.client)) c.in-Err.ensures.unwritten,
  λ x st. c.in-Err.ensures.needed (parted x.client) (c.lost.ensures.lost.1 x st).client,
)
