use Rattle.std.proofs.Common.{◌∙◌}
use Rattle.giop_tap.specs.Waiting.{later_of}
use Rattle.giop_tap.proofs.Kept.{latest-either}
use Rattle.giop_tap.proofs.waiting.latest_asked.Goals as goal

pub returns : goal.returns
returns c = λ ws rising stands.
    c.later_of.ensures ∙ (λ i. later_of (c.latest_at.ensures i) (c.latest_at-2.ensures i))
    ∙ latest-either c.args.waiting.now.entries c.args.connection c.args.sender c.args.id ws rising stands
