use Rattle.std.proofs.Common.{rules}
use Rattle.cdr_core.proofs.order.Order.ulong_of.Goals as goal

pub returns-in-Big : goal.returns-in-Big
returns-in-Big c = search rules

pub returns-in-Little : goal.returns-in-Little
returns-in-Little c = search rules
