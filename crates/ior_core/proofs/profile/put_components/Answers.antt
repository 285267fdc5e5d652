use Rattle.std.proofs.Common.{rules}
use Rattle.ior_core.proofs.profile.put_components.Goals as goal

pub returns-then-profile-eq0 : goal.returns-then-profile-eq0
returns-then-profile-eq0 c = search rules

pub returns : goal.returns
returns c = search rules
