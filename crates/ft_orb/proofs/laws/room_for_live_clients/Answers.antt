use Rattle.ft_orb.proofs.NowFirsts.{room-for-live-clients}
use Rattle.ft_orb.proofs.laws.room_for_live_clients.Goals as goal

pub returns : goal.returns
returns g c = room-for-live-clients g.S.Servant.meaning
