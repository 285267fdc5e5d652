use Rattle.std.proofs.Common.{◌∙◌, ap, sym}
use Rattle.std.proofs.lemmas.Result.{on_err_weaker}
use Rattle.ft_objects.specs.Filling.{offered_by}
use Rattle.ft_objects.proofs.Named.{leads}
use Rattle.ft_objects.proofs.object.Object.identify.Goals as goal

pub returns-in-Named-clause-err : goal.returns-in-Named-clause-err
returns-in-Named-clause-err c =
    on_err_weaker c.identify.result (λ e. ap leads e ∙ ap offered_by (sym c.in-Named.is)) c.identify.ensures.err
