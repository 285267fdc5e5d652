use Rattle.giop_core.proofs.Spelled.{message_only}
use Rattle.giop_core.proofs.laws.messages_are_spelled.Goals as goal

pub returns-clause-read : goal.returns-clause-read
returns-clause-read c = message_only c.spelled_is_read.ensures
