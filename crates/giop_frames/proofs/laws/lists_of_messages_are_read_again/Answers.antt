use Rattle.giop_frames.proofs.Lists.{nothing_clear, sent_again, sent_up_to}
use Rattle.giop_frames.proofs.laws.lists_of_messages_are_read_again.Goals as goal

pub returns-clause-nothing : goal.returns-clause-nothing
returns-clause-nothing c = nothing_clear

pub returns-clause-again : goal.returns-clause-again
returns-clause-again c = sent_again c.headers_are_read_again.ensures

pub returns-clause-front : goal.returns-clause-front
returns-clause-front c = sent_up_to c.headers_are_read_again.ensures
