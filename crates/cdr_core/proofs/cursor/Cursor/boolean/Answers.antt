use Rattle.std.proofs.Common.{rules}
use Rattle.cdr_core.specs.Reading.{boolean_at, value_at}
use Rattle.cdr_core.proofs.cursor.Cursor.boolean.Goals as goal

pub returns-in_err-octet : goal.returns-in_err-octet
unfolding value_at boolean_at
returns-in_err-octet c = search rules

pub returns-then-octet-gt1 : goal.returns-then-octet-gt1
unfolding value_at boolean_at
returns-then-octet-gt1 c = search rules

pub returns : goal.returns
unfolding value_at boolean_at
returns c = search rules
