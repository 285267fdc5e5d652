use Rattle.std.proofs.Common.{arith, rules}
use Rattle.std.proofs.lemmas.Grind.{common_steps}
use Rattle.cdr_core.proofs.numbers.put_zeros.Goals as goal

pub loop-init : goal.loop-init
loop-init c = search rules

pub loop-preserved : goal.loop-preserved
loop-preserved c = grind (arith, common_steps)
