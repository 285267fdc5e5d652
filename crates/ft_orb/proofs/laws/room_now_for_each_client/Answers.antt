use Rattle.ft_orb.proofs.SharesNow.{room-for-each-client-now}
use Rattle.ft_orb.proofs.laws.room_now_for_each_client.Goals as goal

pub returns : goal.returns
returns g c = room-for-each-client-now g.S.Servant.meaning
