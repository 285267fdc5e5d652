use Rattle.std.proofs.Common.{rules}
use Rattle.cdr_core.specs.Reading.{value_at, whole_at}
use Rattle.cdr_core.proofs.cursor.Cursor.ushort.Goals as goal

pub returns-in_err-two : goal.returns-in_err-two
unfolding value_at whole_at
returns-in_err-two c = search rules

pub returns : goal.returns
unfolding value_at whole_at
returns c = search rules
