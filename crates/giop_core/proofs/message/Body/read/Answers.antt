use Rattle.std.proofs.Common.{rules}
use Rattle.giop_core.proofs.message.Body.read.Goals as goal

pub returns-in_err-values : goal.returns-in_err-values
returns-in_err-values c = search rules
