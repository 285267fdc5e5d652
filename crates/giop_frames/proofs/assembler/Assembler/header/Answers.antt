use Rattle.std.proofs.Common.{rules}
use Rattle.giop_frames.proofs.assembler.Assembler.header.Goals as goal

pub returns : goal.returns
returns c = search rules
