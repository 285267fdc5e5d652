use Rattle.std.proofs.Common.{Ok, ap, refl, ◌∙◌, sym}
use Rattle.lemonrudder.proofs.Asked.{asked-idle}
use Rattle.lemonrudder.proofs.Idling.{many, not_both, not_so}
use Rattle.lemonrudder.proofs.serving.Serving.pass_over.Goals as goal

pub returns-then-not-has : goal.returns-then-not-has
returns-then-not-has c =
    let e = c.tick.ensures in (
      λ some. absurd (not_both _ some c.requires.idle),
      λ idle. (
        λ none. (refl, (e.idle, (λ q. (refl, refl), refl), λ q. (refl, refl), (e.catalogue, refl), (e.asks, e.parked, e.counts), e.clock, e.forgotten, e.late, e.ended)),
        λ there. absurd (not_so (sym c.has.ensures ∙ c.if-not-has.true) there),
      ),
    )

pub returns-then-is_leaving : goal.returns-then-is_leaving
returns-then-is_leaving c =
    let e = c.tick-then-is_leaving.ensures in (
      λ some. absurd (not_both _ some c.requires.idle),
      λ idle. (
        λ none. absurd (not_so none (sym c.has.ensures ∙ c.if-not-has.false)),
        λ there. (
          λ leaves. (ap Ok c.count_of.ensures, (e.idle, (λ q. (refl, refl), refl), λ q. (refl, refl), (e.catalogue, refl), (e.asks, e.parked, e.counts), e.clock, e.forgotten, e.late, e.ended)),
          λ stays. absurd (not_so stays (sym c.is_leaving.ensures ∙ c.if-is_leaving.true)),
        ),
      ),
    )

pub returns : goal.returns
returns c = (
  λ some. absurd (not_both _ some c.requires.idle),
  λ idle. (
    λ none. absurd (not_so none (sym c.has.ensures ∙ c.if-not-has.false)),
    λ there. (
      λ leaves. absurd (not_so (sym c.is_leaving.ensures ∙ c.if-is_leaving.false) leaves),
      λ stays. (λ full. (refl, refl), λ room. absurd (c.requires.unheard (there, stays, many _ _ room))),
    ),
  ),
)

pub invariant_of-self : goal.invariant_of-self
invariant_of-self c = record { asked = asked-idle c.args.self.now.connections c.tick.new.self c.tick.ensures.idle }
