use Rattle.std.proofs.Common.{rules}
use Rattle.giop_core.proofs.target_address.Target.key_of_any.Goals as goal

pub returns-in_err-tag-in-Reference : goal.returns-in_err-tag-in-Reference
returns-in_err-tag-in-Reference c = search rules

pub returns-in-Key : goal.returns-in-Key
returns-in-Key c = search rules

pub returns-in-Profile : goal.returns-in-Profile
returns-in-Profile c = search rules

pub returns-in_ok-tag-in-Reference : goal.returns-in_ok-tag-in-Reference
returns-in_ok-tag-in-Reference c = search rules
