use Rattle.std.proofs.Common.{rules}
use Rattle.cdr_core.proofs.fitting.fits.Goals as goal

pub returns : goal.returns
returns c = search rules
