use Rattle.std.proofs.Common.{rules}
use Rattle.ft_orb.proofs.serving.is_memory.Goals as goal

pub returns-clause-memory : goal.returns-clause-memory
returns-clause-memory c = search rules
