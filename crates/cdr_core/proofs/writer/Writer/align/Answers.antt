use Rattle.std.proofs.Common.{rules}
use Rattle.cdr_core.proofs.writer.Writer.align.Goals as goal

pub returns-clause-ok : goal.returns-clause-ok
returns-clause-ok c = search rules
