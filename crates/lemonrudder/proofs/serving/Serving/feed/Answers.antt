use Rattle.std.proofs.Common.{refl, ◌∙◌, sym}
use Rattle.lemonrudder.proofs.Asked.{idle-by}
use Rattle.lemonrudder.proofs.Idling.{few, not_both, not_so}
use Rattle.lemonrudder.proofs.serving.Serving.feed.Goals as goal

pub returns-then-is_asking : goal.returns-then-is_asking
returns-then-is_asking c = (λ some. (refl, refl), λ idle. absurd (not_both _ (c.is_asking.ensures.0 c.if-is_asking.true) idle))

pub serve-requires : goal.serve-requires
serve-requires c = record { idle = idle-by c.is_asking.result _ c.is_asking.ensures.1 c.if-is_asking.false; there = (c.hears.ensures.0 c.if-hears.true).0 }

pub returns-then-hears : goal.returns-then-hears
returns-then-hears c =
    let heard = c.hears.ensures.0 c.if-hears.true in (
      λ some. absurd (not_so c.if-is_asking.false (c.is_asking.ensures.1 some)),
      λ idle. (
        λ none. absurd (not_so none heard.0),
        λ there. (
          λ leaves. absurd (not_so heard.1 leaves),
          λ stays. (λ full. absurd (few _ _ heard.2 full), λ room. c.serve.ensures),
        ),
      ),
    )

pub pass_over-requires : goal.pass_over-requires
pass_over-requires c = record {
  idle = idle-by c.is_asking.result _ c.is_asking.ensures.1 c.if-is_asking.false;
  unheard = λ heard. absurd (not_so c.if-hears.false (c.hears.ensures.1 heard));
}
