use Rattle.cdr_core.proofs.Refused.{byte_order_stops}
use Rattle.cdr_core.proofs.laws.byte_order_is_read.Goals as goal

pub returns-clause-stops : goal.returns-clause-stops
returns-clause-stops c = byte_order_stops
