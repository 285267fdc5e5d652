use Rattle.std.proofs.Common.{arith, rules}
use Rattle.std.proofs.lemmas.Grind.{common_steps}
use Rattle.ior_core.proofs.profile.are_components_writable.Goals as goal

pub returns-then-minor-eq0 : goal.returns-then-minor-eq0
returns-then-minor-eq0 c = grind (arith, common_steps)

pub returns : goal.returns
returns c = search rules
