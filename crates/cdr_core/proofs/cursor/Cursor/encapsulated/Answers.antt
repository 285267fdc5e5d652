use Rattle.std.proofs.Common.{rules}
use Rattle.cdr_core.specs.Encapsulation.{order_at}
use Rattle.cdr_core.proofs.cursor.Cursor.encapsulated.Goals as goal

pub returns-in_err-little : goal.returns-in_err-little
unfolding order_at
returns-in_err-little c = search rules
