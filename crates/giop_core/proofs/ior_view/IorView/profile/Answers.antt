use Rattle.std.proofs.Common.{rules}
use Rattle.giop_core.proofs.ior_view.IorView.profile.Goals as goal

pub returns : goal.returns
returns c = search rules
