use Rattle.std.proofs.Common.{rules}
use Rattle.cdr_core.proofs.cursor.Cursor.count.Goals as goal

pub returns : goal.returns
returns c = search rules
