use Rattle.giop_frames.proofs.Holding.{frame-held}
use Rattle.giop_frames.proofs.assembler.Assembler.message.Goals as goal

pub returns-in-Some-clause-within : goal.returns-in-Some-clause-within
returns-in-Some-clause-within c =
    let a = c.self.inside in
    rw (← c.self.view_is) (frame-held a.limits a.complete a.frame.items a.needed c.self.invariant.needs c.self.invariant.kept)

pub returns-in-None-clause-within : goal.returns-in-None-clause-within
returns-in-None-clause-within c =
    let a = c.self.inside in
    rw (← c.self.view_is) (frame-held a.limits a.complete a.frame.items a.needed c.self.invariant.needs c.self.invariant.kept)
