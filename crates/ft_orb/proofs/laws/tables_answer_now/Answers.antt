use Rattle.ft_orb.specs.Requests.{rules_of}
use Rattle.ft_orb.proofs.Now.{tables-answer-now, tables-go-on-now}
use Rattle.ft_orb.proofs.laws.tables_answer_now.Goals as goal

pub returns-clause-answers : goal.returns-clause-answers
returns-clause-answers g c = λ capacity share. tables-answer-now (rules_of g.S.Servant.meaning capacity share)

pub returns-clause-next : goal.returns-clause-next
returns-clause-next g c = λ capacity share. tables-go-on-now (rules_of g.S.Servant.meaning capacity share)
