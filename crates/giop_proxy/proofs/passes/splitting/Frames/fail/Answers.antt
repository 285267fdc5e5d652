use Rattle.std.proofs.Common.{true}
use Rattle.giop_proxy.proofs.PassingSteps.{nothing-held}
use Rattle.giop_proxy.proofs.passes.splitting.Frames.fail.Goals as goal

pub invariant_of-self : goal.invariant_of-self
invariant_of-self c = nothing-held c.self.inside.limits true c.clear.new.self.items c.clear.ensures.items
