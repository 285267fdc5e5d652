use Rattle.std.proofs.Common.{arith, rules}
use Rattle.std.proofs.lemmas.Grind.{common_steps}
use Rattle.cdr_core.proofs.parts.has_no_nul.Goals as goal

pub loop-octet-init : goal.loop-octet-init
loop-octet-init c = search rules

pub returns : goal.returns
returns c = grind (arith, common_steps)
