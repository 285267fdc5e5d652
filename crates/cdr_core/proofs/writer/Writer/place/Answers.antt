use Rattle.std.proofs.Common.{rules}
use Rattle.cdr_core.proofs.writer.Writer.place.Goals as goal

pub returns : goal.returns
returns c = search rules
