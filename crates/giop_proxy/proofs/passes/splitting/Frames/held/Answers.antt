use Rattle.giop_proxy.proofs.PassingSteps.{held-within}
use Rattle.giop_proxy.proofs.passes.splitting.Frames.held.Goals as goal

pub returns-clause-bounded : goal.returns-clause-bounded
returns-clause-bounded c =
    let a = c.self.inside in
    rw (← c.self.view_is) (held-within a.limits a.complete a.frame.items a.needed c.self.invariant.needs c.self.invariant.kept)
