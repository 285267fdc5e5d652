use Rattle.std.proofs.Common.{rules}
use Rattle.ft_client.proofs.settling.plain_end.Goals as goal

pub returns-in-Some-NoException : goal.returns-in-Some-NoException
returns-in-Some-NoException c = search rules

pub returns-in-Some-UserException : goal.returns-in-Some-UserException
returns-in-Some-UserException c = search rules

pub returns-in_default : goal.returns-in_default
returns-in_default c = search rules
