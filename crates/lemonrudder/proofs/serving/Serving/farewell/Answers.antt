use Rattle.std.proofs.Common.{refl, ◌∙◌, sym}
use Rattle.lemonrudder.proofs.Idling.{not_both, not_so}
use Rattle.lemonrudder.proofs.serving.Serving.farewell.Goals as goal

pub returns-then-is_asking : goal.returns-then-is_asking
returns-then-is_asking c = (λ some. (refl, refl), λ idle. absurd (not_both _ (c.is_asking.ensures.0 c.if-is_asking.true) idle))

pub returns-then-not-has : goal.returns-then-not-has
returns-then-not-has c = (
  λ some. absurd (not_so c.if-is_asking.false (c.is_asking.ensures.1 some)),
  λ idle. (λ none. (refl, refl), λ there. absurd (not_so (sym c.has.ensures ∙ c.if-not-has.true) there)),
)
