use Rattle.giop_frames.proofs.Whole.{large_refused, written_again}
use Rattle.giop_frames.proofs.laws.written_messages_are_read_again.Goals as goal

pub returns-clause-again : goal.returns-clause-again
returns-clause-again c = written_again c.headers_are_read_again.ensures

pub returns-clause-large : goal.returns-clause-large
returns-clause-large c = large_refused c.headers_are_read_again.ensures
