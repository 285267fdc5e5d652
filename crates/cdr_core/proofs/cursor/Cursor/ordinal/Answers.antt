use Rattle.std.proofs.Common.{rules}
use Rattle.cdr_core.specs.Reading.{ordinal_at, value_at}
use Rattle.cdr_core.proofs.cursor.Cursor.ordinal.Goals as goal

pub returns-in_err-ordinal : goal.returns-in_err-ordinal
unfolding value_at ordinal_at
returns-in_err-ordinal c = search rules

pub returns-then-ordinal-names : goal.returns-then-ordinal-names
unfolding value_at ordinal_at
returns-then-ordinal-names c = search rules

pub returns : goal.returns
unfolding value_at ordinal_at
returns c = search rules
