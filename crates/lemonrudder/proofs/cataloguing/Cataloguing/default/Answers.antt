use Rattle.std.proofs.Common.{ap, refl}
use Rattle.std.proofs.lemmas.Result.{err_from_is_err_and}
use Rattle.lemonrudder.proofs.Catalogues.{stocked_as}
use Rattle.lemonrudder.specs.Fills.{filling}
use Rattle.lemonrudder.proofs.cataloguing.Cataloguing.default.Goals as goal

pub returns-in_err-add_raw_object : goal.returns-in_err-add_raw_object
returns-in_err-add_raw_object c =
    let p = err_from_is_err_and c.from_residual.result c.from_residual.ensures.1 in
    let e = c.in_err-add_raw_object.ensures in
    rw (p.1, p.2) (ap (λ x. record (filling c.args.self.now) { families = x }) (stocked_as _ _ _ _ _ _ e.err e.raw_err e.ids), (c.in_err-add_raw_object.field-0.0, refl, e.why))
