use Rattle.giop_core.proofs.ReadFits.{message_again, message_can}
use Rattle.giop_core.proofs.laws.read_messages_can_be_written.Goals as goal

pub returns-clause-can : goal.returns-clause-can
returns-clause-can c = message_can c.read_is_spelled.ensures c.spelled_fits.ensures

pub returns-clause-again : goal.returns-clause-again
returns-clause-again c = message_again c.read_is_spelled.ensures c.spelled_fits.ensures c.spelled_is_read.ensures c.written_is_spelled.ensures
