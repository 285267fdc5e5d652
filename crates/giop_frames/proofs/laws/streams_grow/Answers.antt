use Rattle.giop_frames.proofs.Stays.{fault-stays, messages-grow, messages-stay}
use Rattle.giop_frames.proofs.laws.streams_grow.Goals as goal

pub returns-clause-messages : goal.returns-clause-messages
returns-clause-messages c = messages-grow

pub returns-clause-fault : goal.returns-clause-fault
returns-clause-fault c = fault-stays

pub returns-clause-end : goal.returns-clause-end
returns-clause-end c = messages-stay
