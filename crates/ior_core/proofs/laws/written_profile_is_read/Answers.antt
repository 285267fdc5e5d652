use Rattle.std.proofs.Common.{arith}
use Rattle.ior_core.specs.Profiles.{iiop_body}
use Rattle.ior_core.proofs.Fitting.{profile_fits}
use Rattle.ior_core.proofs.laws.written_profile_is_read.Goals as goal

pub returns : goal.returns
returns c =
    let profile = c.args.profile.now in
    c.written_is_read.ensures.profile (iiop_body profile) (profile_fits profile (omega arith) (omega arith) (rw c.deref.ensures.value at c.are_of_code.ensures) c.requires)
