use Rattle.giop_frames.proofs.Completing.{partials_counted}
use Rattle.giop_frames.proofs.laws.partials_are_counted.Goals as goal

pub returns : goal.returns
returns c = partials_counted
