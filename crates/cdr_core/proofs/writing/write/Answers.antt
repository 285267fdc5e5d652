use Rattle.std.proofs.Common.{arith}
use Rattle.std.proofs.lemmas.Grind.{elements}
use Rattle.cdr_core.proofs.writing.write.Goals as goal

pub returns-then-is_err : goal.returns-then-is_err
returns-then-is_err c = grind (arith, elements)
