use Rattle.ft_orb.proofs.Plays.{new_stands}
use Rattle.ft_orb.proofs.laws.new_servers_stand.Goals as goal

pub returns : goal.returns
returns g c = new_stands g.S.Servant.meaning
