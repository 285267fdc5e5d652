use Rattle.std.proofs.Common.{rules}
use Rattle.cdr_core.proofs.fitting.is_labelled.Goals as goal

pub returns : goal.returns
returns c = search rules
