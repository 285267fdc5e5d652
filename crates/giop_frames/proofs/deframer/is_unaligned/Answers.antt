use Rattle.std.proofs.Common.{rules}
use Rattle.giop_frames.proofs.deframer.is_unaligned.Goals as goal

pub returns-then-header : goal.returns-then-header
returns-then-header c = search rules

pub returns-else-header : goal.returns-else-header
returns-else-header c = search rules
