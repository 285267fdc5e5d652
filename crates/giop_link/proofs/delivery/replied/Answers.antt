use Rattle.std.proofs.Common.{rules}
use Rattle.giop_link.proofs.delivery.replied.Goals as goal

pub returns-in-Some-LocationForward : goal.returns-in-Some-LocationForward
returns-in-Some-LocationForward c = search rules

pub returns-in-Some-NeedsAddressingMode : goal.returns-in-Some-NeedsAddressingMode
returns-in-Some-NeedsAddressingMode c = search rules
