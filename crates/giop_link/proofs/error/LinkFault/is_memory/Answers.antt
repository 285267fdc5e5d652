use Rattle.std.proofs.Common.{rules}
use Rattle.giop_link.proofs.error.LinkFault.is_memory.Goals as goal

pub returns-in-Stream-Memory : goal.returns-in-Stream-Memory
returns-in-Stream-Memory c = search rules

pub returns-in_default : goal.returns-in_default
returns-in_default c = search rules

pub returns-in_default-2 : goal.returns-in_default-2
returns-in_default-2 c = search rules
