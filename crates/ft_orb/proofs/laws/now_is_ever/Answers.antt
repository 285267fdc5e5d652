use Rattle.ft_orb.specs.Requests.{rules_of}
use Rattle.ft_orb.proofs.Ever.{now-is-ever}
use Rattle.ft_orb.proofs.laws.now_is_ever.Goals as goal

pub returns : goal.returns
returns g c = λ capacity share. now-is-ever (rules_of g.S.Servant.meaning capacity share)
