use Rattle.std.proofs.Common.{rules}
use Rattle.giop_frames.proofs.partial.is_key.Goals as goal

pub returns-in-Of12-Of12 : goal.returns-in-Of12-Of12
returns-in-Of12-Of12 c = search rules

pub returns-in-Of11-Of11 : goal.returns-in-Of11-Of11
returns-in-Of11-Of11 c = search rules

pub returns-in_default : goal.returns-in_default
returns-in_default c = search rules

pub returns-in_default-2 : goal.returns-in_default-2
returns-in_default-2 c = search rules
