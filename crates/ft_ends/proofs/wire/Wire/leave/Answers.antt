use Rattle.std.proofs.Common.{rules}
use Rattle.ft_ends.proofs.wire.Wire.leave.Goals as goal

pub returns : goal.returns
returns c = search rules
