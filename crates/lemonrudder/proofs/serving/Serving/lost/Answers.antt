use Rattle.std.proofs.Common.{refl, arith}
use Rattle.std.proofs.lemmas.Grind.{common_steps}
use Rattle.lemonrudder.proofs.Asked.{asked-idle}
use Rattle.lemonrudder.proofs.Idling.{not_both, not_so}
use Rattle.lemonrudder.proofs.serving.Serving.lost.Goals as goal

pub returns-then-is_asking : goal.returns-then-is_asking
returns-then-is_asking c = (λ some. (refl, refl), λ idle. absurd (not_both _ (c.is_asking.ensures.0 c.if-is_asking.true) idle))

pub returns : goal.returns
returns c = (
  λ some. absurd (not_so c.if-is_asking.false (c.is_asking.ensures.1 some)),
  λ idle. (
    refl,
    c.lost.ensures.idle,
    (c.remove.ensures.gone, c.remove.ensures.others, c.remove-2.ensures.updates.1, λ q apart. grind (arith, common_steps, c.remove-2.ensures.updates.2 q), c.remove.ensures.noted),
    (c.lost.ensures.catalogue, refl),
    (c.lost.ensures.asks, c.lost.ensures.parked, c.lost.ensures.counts),
    c.lost.ensures.late,
    c.lost.ensures.ended,
  ),
)

pub invariant_of-self : goal.invariant_of-self
invariant_of-self c = record { asked = asked-idle c.remove.new.self c.lost.new.self c.lost.ensures.idle }
