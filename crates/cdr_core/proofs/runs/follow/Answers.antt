use Rattle.std.proofs.Common.{rules}
use Rattle.cdr_core.proofs.runs.follow.Goals as goal

pub returns-in-Big : goal.returns-in-Big
returns-in-Big c = search rules
