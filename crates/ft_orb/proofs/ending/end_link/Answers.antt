use Rattle.std.proofs.Common.{◌≡◌, ◌==◌, ℕ, false, arith}
use Rattle.std.proofs.lemmas.Grind.{common_steps}
use Rattle.ft_orb.proofs.ending.end_link.Goals as goal

pub returns-clause-gone : goal.returns-clause-gone
returns-clause-gone c = c.remove.ensures.updates.1

pub returns-clause-others : goal.returns-clause-others
returns-clause-others c q n = grind (arith, common_steps)
