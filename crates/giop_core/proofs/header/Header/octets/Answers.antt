use Rattle.std.proofs.Common.{rules}
use Rattle.giop_core.proofs.header.Header.octets.Goals as goal

pub returns : goal.returns
returns c = search rules
