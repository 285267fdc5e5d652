use Rattle.std.proofs.Common.{ap, ◌∙◌}
use Rattle.giop_tap.specs.Tracing.{Traced}
use Rattle.giop_tap.proofs.Telling.{forgot-none-yet}
use Rattle.giop_tap.proofs.tracer.Trace.forgot.Goals as goal

pub returns-clause-light : goal.returns-clause-light
returns-clause-light c = λ t stands light.
    c.forgot.ensures ∙ ap (λ (x : Traced). x.pairs.keyed.forgot) c.self.view_is ∙ forgot-none-yet c.args.self.now.pairs t.earlier stands.pairs_stand light
