use Rattle.giop_frames.specs.Standing.{entries, pending_at}
use Rattle.giop_frames.proofs.Awaiting.{awaits}
use Rattle.giop_frames.proofs.assembler.Assembler.needed.Goals as goal

pub returns-clause-awaits : goal.returns-clause-awaits
returns-clause-awaits c =
    let a = c.self.inside in
    rw (← c.self.view_is) (λ s stands. awaits a.limits (pending_at a.complete a.frame.items) (entries a.parts.items) s a.needed stands.stands c.self.invariant.needs)
