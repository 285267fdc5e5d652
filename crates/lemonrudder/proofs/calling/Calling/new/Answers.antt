use Rattle.std.proofs.Common.{◌∙◌, refl}
use Rattle.lemonrudder.proofs.calling.Calling.new.Goals as goal

pub returns : goal.returns
returns c = (
  c.in_ok-limits.limits,
  c.in_ok-limits.ensures,
  record {
    client = c.in_ok-new.ensures.stands;
    placed = c.new-3.ensures.placed;
    due = c.new-3.ensures.owed ∙ c.new-2.ensures.items;
    last = refl;
  },
)
