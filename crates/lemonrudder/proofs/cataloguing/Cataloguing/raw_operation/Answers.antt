use Rattle.std.proofs.Common.{refl}
use Rattle.std.proofs.lemmas.Result.{err_from_is_err_and}
use Rattle.lemonrudder.proofs.Catalogues.{filled_as}
use Rattle.lemonrudder.proofs.cataloguing.Cataloguing.raw_operation.Goals as goal

pub returns : goal.returns
returns c = (refl, (c.in_ok-add_raw_operation.ensures.can, c.in_ok-add_raw_operation.ensures.takes, c.in_ok-add_raw_operation.ensures.free), filled_as _ _ _ _ _ _ _ _ c.in_ok-add_raw_operation.ensures.ok c.in_ok-add_raw_operation.ensures.raw c.in_ok-add_raw_operation.ensures.ids)

pub returns-in_err-add_raw_operation : goal.returns-in_err-add_raw_operation
returns-in_err-add_raw_operation c =
    let p = err_from_is_err_and c.from_residual.result c.from_residual.ensures.1 in
    rw (p.1, p.2) (filled_as _ _ _ _ _ _ _ _ c.in_err-add_raw_operation.ensures.err c.in_err-add_raw_operation.ensures.raw c.in_err-add_raw_operation.ensures.ids, (c.in_err-add_raw_operation.field-0.0, refl, c.in_err-add_raw_operation.ensures.why))
