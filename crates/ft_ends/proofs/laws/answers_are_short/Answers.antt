use Rattle.ft_ends.proofs.Short.{answers-are-short}
use Rattle.ft_ends.proofs.laws.answers_are_short.Goals as goal

pub returns : goal.returns
returns g c = answers-are-short g.S.Servant.meaning c.spelled_fits.ensures c.calls_are_asked.ensures g.S.Servant.promises
