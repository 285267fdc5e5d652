use Rattle.ft_orb.proofs.Ruling.{answers-have-a-rule, owners-are-servants}
use Rattle.ft_orb.proofs.laws.answers_have_a_rule.Goals as goal

pub returns-clause-rule : goal.returns-clause-rule
returns-clause-rule c = answers-have-a-rule

pub returns-clause-servant : goal.returns-clause-servant
returns-clause-servant c = owners-are-servants
