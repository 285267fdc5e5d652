use Rattle.std.proofs.Common.{is_some, ap, ◌∙◌}
use Rattle.giop_proxy.proofs.PassingKeys.{place-is_passed}
use Rattle.giop_proxy.proofs.passes.keys.is_passed.Goals as goal

pub returns : goal.returns
returns c = c.is_some.ensures ∙ ap is_some c.place.ensures ∙ place-is_passed c.args.key c.args.passed.now
