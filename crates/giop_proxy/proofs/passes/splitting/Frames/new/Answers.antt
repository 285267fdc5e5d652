use Rattle.std.proofs.Common.{false, refl}
use Rattle.giop_proxy.specs.Passing.{split}
use Rattle.giop_proxy.proofs.PassingSteps.{nothing-held}
use Rattle.giop_proxy.proofs.passes.splitting.Frames.new.Goals as goal

pub invariant_of-result : goal.invariant_of-result
invariant_of-result c = nothing-held c.args.limits false c.new.result.items c.new.ensures.items

pub returns-clause-stands : goal.returns-clause-stands
unfolding split
returns-clause-stands c = record { live = refl; faultless = refl; waiting = c.new.ensures.items; passed = refl }
