use Rattle.std.proofs.Common.{rules}
use Rattle.ft_log.proofs.key.Key.is_same.Goals as goal

pub returns-then-self-other : goal.returns-then-self-other
returns-then-self-other c = search rules
