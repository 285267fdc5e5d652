use Rattle.ft_ends.proofs.Written.{tellings-are-written}
use Rattle.ft_ends.proofs.laws.tellings_are_written.Goals as goal

pub returns : goal.returns
returns g c = tellings-are-written g.S.Servant.meaning
