use Rattle.std.proofs.Common.{rules}
use Rattle.ft_client.proofs.feeding.ended_by.Goals as goal

pub returns-then-is_memory : goal.returns-then-is_memory
returns-then-is_memory c = search rules
