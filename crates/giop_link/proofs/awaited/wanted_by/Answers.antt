use Rattle.std.proofs.Common.{rules}
use Rattle.giop_link.proofs.awaited.wanted_by.Goals as goal

pub returns-in-None : goal.returns-in-None
returns-in-None c = search rules

pub returns-in-Empty : goal.returns-in-Empty
returns-in-Empty c = search rules
