use Rattle.std.proofs.Common.{rules}
use Rattle.giop_core.proofs.control.write_close.Goals as goal

pub returns : goal.returns
returns c = search rules
