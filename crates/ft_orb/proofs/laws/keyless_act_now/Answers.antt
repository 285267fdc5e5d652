use Rattle.ft_orb.specs.Requests.{rules_of}
use Rattle.ft_orb.proofs.NowFirsts.{first-without-call, keyless-act, keyless-without-call}
use Rattle.ft_orb.proofs.laws.keyless_act_now.Goals as goal

pub returns-clause-act : goal.returns-clause-act
returns-clause-act g c = λ capacity share. keyless-act (rules_of g.S.Servant.meaning capacity share)

pub returns-clause-refused : goal.returns-clause-refused
returns-clause-refused g c = λ capacity share. keyless-without-call (rules_of g.S.Servant.meaning capacity share)

pub returns-clause-first : goal.returns-clause-first
returns-clause-first g c = λ capacity share. first-without-call (rules_of g.S.Servant.meaning capacity share)
