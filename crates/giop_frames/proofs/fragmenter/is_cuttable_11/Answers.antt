use Rattle.std.proofs.Common.{rules}
use Rattle.giop_frames.proofs.fragmenter.is_cuttable_11.Goals as goal

pub returns : goal.returns
returns c = search rules
