use Rattle.std.proofs.Common.{rules}
use Rattle.giop_frames.proofs.partial.Part.cancel_in.Goals as goal

pub returns-then-is_named : goal.returns-then-is_named
returns-then-is_named c = search rules

pub returns-else-is_named : goal.returns-else-is_named
returns-else-is_named c = search rules
