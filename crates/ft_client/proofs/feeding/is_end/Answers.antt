use Rattle.std.proofs.Common.{rules}
use Rattle.ft_client.proofs.feeding.is_end.Goals as goal

pub returns-in_default : goal.returns-in_default
returns-in_default c = search rules

pub returns-in-Closed : goal.returns-in-Closed
returns-in-Closed c = search rules

pub returns-in-Closed-2 : goal.returns-in-Closed-2
returns-in-Closed-2 c = search rules
