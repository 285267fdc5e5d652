use Rattle.std.proofs.Common.{arith}
use Rattle.std.proofs.lemmas.Grind.{common_steps}
use Rattle.cdr_core.proofs.writer.Writer.values.Goals as goal

pub returns-then-is_err : goal.returns-then-is_err
returns-then-is_err c = grind (arith, common_steps)
