use Rattle.std.proofs.Common.{rules}
use Rattle.ft_log.proofs.key.Key.copy.Goals as goal

pub returns : goal.returns
returns c = search rules
