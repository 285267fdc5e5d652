use Rattle.std.proofs.Common.{rules}
use Rattle.ft_log.proofs.system_exception.Completion.number.Goals as goal

pub returns-in-Yes : goal.returns-in-Yes
returns-in-Yes c = search rules

pub returns-in-No : goal.returns-in-No
returns-in-No c = search rules

pub returns-in-Maybe : goal.returns-in-Maybe
returns-in-Maybe c = search rules
