use Rattle.std.proofs.Common.{rules}
use Rattle.giop_core.proofs.target_address.read_target.Goals as goal

pub returns-in_err-target : goal.returns-in_err-target
returns-in_err-target c = search rules

pub returns : goal.returns
returns c = search rules
