use Rattle.std.proofs.Common.{rules}
use Rattle.giop_link.proofs.awaited.Outstanding.is_of.Goals as goal

pub returns-in-None : goal.returns-in-None
returns-in-None c = search rules

pub returns-then-self-id : goal.returns-then-self-id
returns-then-self-id c = search rules

pub returns-else-self-id : goal.returns-else-self-id
returns-else-self-id c = search rules
