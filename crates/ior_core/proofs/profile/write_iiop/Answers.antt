use Rattle.std.proofs.Common.{arith}
use Rattle.std.proofs.lemmas.Grind.{common_steps}
use Rattle.ior_core.proofs.profile.write_iiop.Goals as goal

pub returns-then-is_err : goal.returns-then-is_err
returns-then-is_err c = grind (arith, common_steps)
