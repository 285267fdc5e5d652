use Rattle.std.proofs.Common.{arith}
use Rattle.std.proofs.lemmas.Grind.{elements}
use Rattle.ior_core.proofs.reference.object_key.Goals as goal

pub returns-in_err-profile : goal.returns-in_err-profile
returns-in_err-profile c = grind (arith, elements)

pub returns : goal.returns
returns c = grind (arith, elements)
