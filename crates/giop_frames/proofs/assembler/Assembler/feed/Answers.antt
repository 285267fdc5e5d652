use Rattle.std.proofs.Common.{true, ap}
use Rattle.giop_frames.specs.Standing.{entries}
use Rattle.giop_frames.proofs.Holding.{bounded, sound-nothing}
use Rattle.giop_frames.proofs.assembler.Assembler.feed.Goals as goal

pub invariant_of-self-in-Err : goal.invariant_of-self-in-Err
invariant_of-self-in-Err c = sound-nothing c.self.inside.limits true c.clear.new.self.items c.advance.new.places (entries c.clear-in-Err.new.self.items) c.clear.ensures.items (ap entries c.clear-in-Err.ensures.items)

pub returns-in-Ok-clause-bounded : goal.returns-in-Ok-clause-bounded
returns-in-Ok-clause-bounded c =
    bounded c.self.inside.limits c.self.inside.failed c.in-Ok.step.complete c.advance.new.frame.items c.advance.new.needed (entries c.advance.new.parts.items) c.in-Ok.ensures.needed c.in-Ok.ensures.kept (c.in-Ok.ensures.within c.self.invariant.within)
