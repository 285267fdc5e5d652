use Rattle.std.proofs.Common.{rules}
use Rattle.giop_run.proofs.stream.ending_with.Goals as goal

pub returns-then-partial-eq0 : goal.returns-then-partial-eq0
returns-then-partial-eq0 c = search rules

pub returns : goal.returns
returns c = search rules
