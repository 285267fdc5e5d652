use Rattle.std.proofs.Common.{◌∙◌, Some, ap, sym}
use Rattle.std.proofs.lemmas.Result.{on_err_weaker, on_ok_weaker}
use Rattle.ft_objects.specs.Filling.{at, changed, offered_by, offered_in}
use Rattle.ft_objects.specs.declared.object.Object.{Object}
use Rattle.ft_objects.proofs.Named.{leads, led}
use Rattle.ft_objects.proofs.object.Object.add.Goals as goal

pub returns-in-Named-clause-ok : goal.returns-in-Named-clause-ok
returns-in-Named-clause-ok c =
    on_ok_weaker c.put.result (λ e. led (at c.in-Named.operations.by_name) (at c.put.new.map) c.args.name.now (Some c.args.operation) e
    ∙ ap (λ (o : Object). changed c.args.name.now (offered_in (Some c.args.operation)) (offered_by o)) (sym c.in-Named.is)) c.put.ensures.ok

pub returns-in-Named-clause-err : goal.returns-in-Named-clause-err
returns-in-Named-clause-err c =
    on_err_weaker c.put.result (λ e. ap leads e ∙ ap offered_by (sym c.in-Named.is)) c.put.ensures.err
