use Rattle.std.proofs.Common.{rules}
use Rattle.ior_core.proofs.profile.profile_key.Goals as goal

pub returns-then-tag-ne-TAG_INTERNET_IOP : goal.returns-then-tag-ne-TAG_INTERNET_IOP
returns-then-tag-ne-TAG_INTERNET_IOP c = search rules

pub returns : goal.returns
returns c = search rules
