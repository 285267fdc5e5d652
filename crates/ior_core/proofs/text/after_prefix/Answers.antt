use Rattle.std.proofs.Common.{arith, rules}
use Rattle.std.proofs.lemmas.Grind.{common_steps}
use Rattle.ior_core.proofs.text.after_prefix.Goals as goal

pub returns-in-73 : goal.returns-in-73
returns-in-73 c = grind (arith, common_steps)

pub returns-in_default : goal.returns-in_default
returns-in_default c = search rules
