use Rattle.std.proofs.Common.{rules}
use Rattle.ior_core.proofs.profile.IiopProfile.is_writable.Goals as goal

pub returns-then-has_head : goal.returns-then-has_head
returns-then-has_head c = search rules

pub returns-else-has_head : goal.returns-else-has_head
returns-else-has_head c = search rules
