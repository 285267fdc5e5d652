use Rattle.std.proofs.Common.{rules}
use Rattle.giop_frames.proofs.deframer.admit.Goals as goal

pub returns-then-limits-frame_size : goal.returns-then-limits-frame_size
returns-then-limits-frame_size c = search rules

pub returns-then-is_unaligned : goal.returns-then-is_unaligned
returns-then-is_unaligned c = search rules

pub returns : goal.returns
returns c = search rules
