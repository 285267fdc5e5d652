use Rattle.std.proofs.Common.{arith, rules}
use Rattle.std.proofs.lemmas.Grind.{common_steps}
use Rattle.digits.proofs.reading.after_blanks.Goals as goal

pub loop-at-init : goal.loop-at-init
loop-at-init c = search rules

pub loop-at-smaller : goal.loop-at-smaller
loop-at-smaller c = search rules

pub loop-at-preserved : goal.loop-at-preserved
loop-at-preserved c = grind (arith, common_steps)
