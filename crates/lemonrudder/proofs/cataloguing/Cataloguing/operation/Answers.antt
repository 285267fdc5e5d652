use Rattle.std.proofs.Common.{◌∙◌, Err, ap, refl}
use Rattle.std.proofs.lemmas.Result.{err_from_is_err_and}
use Rattle.cdr_core.specs.View.{forms_of}
use Rattle.lemonrudder.proofs.Declaring.{operation_refused}
use Rattle.lemonrudder.proofs.cataloguing.Cataloguing.operation.Goals as goal

pub returns-in_err-add_checked_operation : goal.returns-in_err-add_checked_operation
returns-in_err-add_checked_operation c =
    let p = err_from_is_err_and c.from_residual-in_err-add_checked_operation.result c.from_residual-in_err-add_checked_operation.ensures.1 in
    let none = ap (λ v. v.items) c.replace-raises.ensures.after ∙ c.new.ensures.items in
    let s = c.args.self.now in
    let t = record s { families = record s.families { objects = c.add_checked_operation.new.self }; raises = c.replace-raises.new.dest } in
    let e = c.in_err-add_checked_operation.ensures in
    operation_refused _ _ _ _ s t (forms_of c.in_ok-types_of.field-0.items) (forms_of c.in_ok-types_of-2.field-0.items) c.replace-raises.result _ _ c.in_ok-types_of.ensures c.in_ok-types_of-2.ensures c.replace-raises.ensures.value
    e.err e.raw e.ids refl none e.why (p.1 ∙ ap Err p.2)
