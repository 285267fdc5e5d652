use Rattle.std.proofs.Common.{refl}
use Rattle.std.proofs.lemmas.Result.{err_from_is_err_and}
use Rattle.lemonrudder.proofs.Catalogues.{filled_as}
use Rattle.lemonrudder.proofs.cataloguing.Cataloguing.object.Goals as goal

pub returns : goal.returns
returns c = (refl, c.in_ok-add_object.ensures.free, filled_as _ _ _ _ _ _ _ _ c.in_ok-add_object.ensures.ok c.in_ok-add_object.ensures.raw c.in_ok-add_object.ensures.ids)

pub returns-in_err-add_object : goal.returns-in_err-add_object
returns-in_err-add_object c =
    let p = err_from_is_err_and c.from_residual.result c.from_residual.ensures.1 in
    rw (p.1, p.2) (filled_as _ _ _ _ _ _ _ _ c.in_err-add_object.ensures.err c.in_err-add_object.ensures.raw c.in_err-add_object.ensures.ids, (c.in_err-add_object.field-0.0, refl, c.in_err-add_object.ensures.why))
