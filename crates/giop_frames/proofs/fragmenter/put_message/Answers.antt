use Rattle.std.proofs.Common.{rules}
use Rattle.giop_frames.proofs.fragmenter.put_message.Goals as goal

pub returns-in-Ok : goal.returns-in-Ok
returns-in-Ok c = search rules
