use Rattle.ft_orb.specs.Requests.{rules_of}
use Rattle.ft_orb.proofs.Now.{key-acts-once, key-is-answered, key-is-first}
use Rattle.ft_orb.proofs.laws.key_acts_once.Goals as goal

pub returns-clause-once : goal.returns-clause-once
returns-clause-once g c = λ capacity share. key-acts-once (rules_of g.S.Servant.meaning capacity share)

pub returns-clause-repeats : goal.returns-clause-repeats
returns-clause-repeats g c = λ capacity share. key-is-answered (rules_of g.S.Servant.meaning capacity share)

pub returns-clause-first : goal.returns-clause-first
returns-clause-first g c = λ capacity share. key-is-first (rules_of g.S.Servant.meaning capacity share)
