use Rattle.std.proofs.Common.{arith}
use Rattle.digits.proofs.DigitValues.{value_in}
use Rattle.digits.proofs.reading.value_of.Goals as goal

pub returns : goal.returns
returns c = value_in c.args.octet (omega (arith, c.ranges.octet.fits))
