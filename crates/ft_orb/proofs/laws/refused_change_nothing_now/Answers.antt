use Rattle.ft_orb.specs.Requests.{rules_of}
use Rattle.ft_orb.proofs.NowFirsts.{expired-are-refused-now, invalid-are-refused-now}
use Rattle.ft_orb.proofs.laws.refused_change_nothing_now.Goals as goal

pub returns-clause-expired : goal.returns-clause-expired
returns-clause-expired g c = λ capacity share. expired-are-refused-now (rules_of g.S.Servant.meaning capacity share)

pub returns-clause-invalid : goal.returns-clause-invalid
returns-clause-invalid g c = λ capacity share. invalid-are-refused-now (rules_of g.S.Servant.meaning capacity share)
