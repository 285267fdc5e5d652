use Rattle.std.proofs.Common.{rules}
use Rattle.giop_link.proofs.server.ServerLink.is_closed.Goals as goal

pub returns : goal.returns
returns c = search rules
