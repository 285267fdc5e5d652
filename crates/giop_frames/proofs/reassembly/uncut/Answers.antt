use Rattle.std.proofs.Common.{rules}
use Rattle.giop_frames.proofs.reassembly.uncut.Goals as goal

pub returns-then-is_among : goal.returns-then-is_among
returns-then-is_among c = search rules

pub returns : goal.returns
returns c = search rules
