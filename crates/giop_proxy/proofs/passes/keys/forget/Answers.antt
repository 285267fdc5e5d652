use Rattle.std.proofs.Common.{sym, ap, ◌∙◌}
use Rattle.std.specs.List.{position}
use Rattle.giop_proxy.proofs.PassingKeys.{at_key, place-forgotten, place-unforgotten}
use Rattle.giop_proxy.proofs.passes.keys.forget.Goals as goal

pub returns-in-Some : goal.returns-in-Some
returns-in-Some c =
    c.remove.ensures.items ∙ place-forgotten c.args.key c.args.passed.now.items c.in-Some.at (ap (position (at_key c.args.key)) (sym c.as_slice.ensures.value) ∙ sym c.in-Some.ensures)

pub returns-in_default : goal.returns-in_default
returns-in_default c = place-unforgotten c.args.key c.args.passed.now.items (ap (position (at_key c.args.key)) (sym c.as_slice.ensures.value) ∙ sym c.in_default.ensures)
