use Rattle.ft_orb.specs.Requests.{rules_of}
use Rattle.ft_orb.proofs.Now.{key-acts-later, key-is-held}
use Rattle.ft_orb.proofs.laws.key_acts_later.Goals as goal

pub returns-clause-later : goal.returns-clause-later
returns-clause-later g c = λ capacity share. key-acts-later (rules_of g.S.Servant.meaning capacity share)

pub returns-clause-held : goal.returns-clause-held
returns-clause-held g c = λ capacity share. key-is-held (rules_of g.S.Servant.meaning capacity share)
