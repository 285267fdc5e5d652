use Rattle.std.proofs.Common.{arith}
use Rattle.cdr_core.proofs.SpelledFits.{are_octets}
use Rattle.cdr_core.proofs.laws.are_octets.Goals as goal

pub returns : goal.returns
returns c = are_octets c.args.octets.now (λ i. omega (arith, c.type_inv.octets i))
