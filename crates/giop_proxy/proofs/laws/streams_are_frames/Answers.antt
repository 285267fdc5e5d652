use Rattle.giop_proxy.proofs.PassingFrames.{the-ones}
use Rattle.giop_proxy.proofs.laws.streams_are_frames.Goals as goal

pub returns : goal.returns
returns c = the-ones
