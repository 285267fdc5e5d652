use Rattle.std.proofs.Common.{rules}
use Rattle.ft_client.proofs.ending.withdraw.Goals as goal

pub returns-in_default : goal.returns-in_default
returns-in_default c = search rules

pub returns-in_err-cancel : goal.returns-in_err-cancel
returns-in_err-cancel c = search rules
