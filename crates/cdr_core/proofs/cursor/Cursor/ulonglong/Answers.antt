use Rattle.std.proofs.Common.{rules}
use Rattle.cdr_core.specs.Reading.{value_at, whole_at}
use Rattle.cdr_core.proofs.cursor.Cursor.ulonglong.Goals as goal

pub returns-in_err-eight : goal.returns-in_err-eight
unfolding value_at whole_at
returns-in_err-eight c = search rules

pub returns : goal.returns
unfolding value_at whole_at
returns c = search rules
