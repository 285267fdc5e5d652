use Rattle.std.proofs.Common.{false, refl, ◌∙◌}
use Rattle.ft_lives.proofs.Tried.{far-begun, far-waits, told-free, told-held, told-over, waits-along}
use Rattle.ft_lives.proofs.steps.look_once.Goals as goal

pub loop-attempt-init : goal.loop-attempt-init
loop-attempt-init g c = record { life = refl; far = far-begun g.S.Store.apply _ _ _ }

pub returns-in-Over-clause-once : goal.returns-in-Over-clause-once
returns-in-Over-clause-once g c = told-over g.S.Store.apply _ _ false _ _ _ refl c.loop-attempt.invariant.far (waits-along g.S.Store.apply _ _ _ _ c.loop-attempt.invariant.life c.in-Over.ensures.waits) c.in-Over.ensures.found

pub returns-in-Held-clause-once : goal.returns-in-Held-clause-once
returns-in-Held-clause-once g c = told-held g.S.Store.apply _ _ false _ _ _ c.in-Held.outcome c.loop-attempt.invariant.far (waits-along g.S.Store.apply _ _ _ _ c.loop-attempt.invariant.life c.in-Held.ensures.waits) c.in-Held.ensures.found.1

pub returns-in-Free-clause-once : goal.returns-in-Free-clause-once
returns-in-Free-clause-once g c = told-free g.S.Store.apply _ _ _ _ _ c.loop-attempt.invariant.far (waits-along g.S.Store.apply _ _ _ _ c.loop-attempt.invariant.life c.in-Free.ensures.waits) c.in-Free.ensures.found.1

pub loop-attempt-preserved : goal.loop-attempt-preserved
loop-attempt-preserved g c = record {
  life = c.in-Silent.ensures.life ∙ c.loop-attempt.invariant.life;
  far = far-waits g.S.Store.apply _ _ false _ _ _ c.loop-attempt.invariant.far (waits-along g.S.Store.apply _ _ _ _ c.loop-attempt.invariant.life c.in-Silent.ensures.waits);
}
