use Rattle.std.proofs.Common.{rules}
use Rattle.giop_link.proofs.error.LinkFaultFromStreamFault.from.Goals as goal

pub returns : goal.returns
returns c = search rules
