use Rattle.std.proofs.Common.{rules}
use Rattle.ft_log.proofs.error.LogErrorFromAllocError.from.Goals as goal

pub returns : goal.returns
returns c = search rules
