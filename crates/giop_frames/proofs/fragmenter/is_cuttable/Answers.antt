use Rattle.std.proofs.Common.{rules}
use Rattle.giop_frames.proofs.fragmenter.is_cuttable.Goals as goal

pub returns : goal.returns
returns c = search rules
