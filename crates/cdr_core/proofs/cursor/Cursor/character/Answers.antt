use Rattle.std.proofs.Common.{rules}
use Rattle.cdr_core.specs.Reading.{value_at, whole_at}
use Rattle.cdr_core.proofs.cursor.Cursor.character.Goals as goal

pub returns-in_err-code : goal.returns-in_err-code
unfolding value_at whole_at
returns-in_err-code c = search rules

pub returns : goal.returns
unfolding value_at whole_at
returns c = search rules
