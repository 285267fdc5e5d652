use Rattle.std.proofs.Common.{refl, rules}
use Rattle.lemonrudder.proofs.Idling.{not_both, not_so}
use Rattle.lemonrudder.proofs.Offered.{swapped_with}
use Rattle.lemonrudder.proofs.Asked.{asked-idle}
use Rattle.lemonrudder.proofs.serving.Serving.swap.Goals as goal

pub returns-then-is_asking : goal.returns-then-is_asking
returns-then-is_asking c = (λ some. ((refl, refl), refl), λ idle. absurd (not_both _ (c.is_asking.ensures.0 c.if-is_asking.true) idle))

pub returns : goal.returns
returns c =
    let now = c.change.ensures in (
      λ some. absurd (not_so c.if-is_asking.false (c.is_asking.ensures.1 some)),
      λ idle. (
        refl,
        swapped_with _ _ _ _ now.bound now.first (search rules) (search rules),
        (now.idle, refl, ((λ x. (refl, refl)), refl), (λ x. (refl, refl)), now.asks, now.parked, now.waiting, now.counts, now.ended),
        now.late,
      ),
    )

pub invariant_of-self : goal.invariant_of-self
invariant_of-self c = record { asked = asked-idle c.args.self.now.connections c.change.new.self c.change.ensures.idle }
