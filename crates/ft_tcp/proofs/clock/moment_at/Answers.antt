use Rattle.std.proofs.Common.{rules}
use Rattle.ft_tcp.proofs.clock.moment_at.Goals as goal

pub returns-in_err-seconds : goal.returns-in_err-seconds
returns-in_err-seconds c = search rules

pub returns-in_err-units : goal.returns-in_err-units
returns-in_err-units c = search rules

pub returns : goal.returns
returns c = search rules
