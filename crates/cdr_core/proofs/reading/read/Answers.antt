use Rattle.std.proofs.Common.{◌-◌, length, ap}
use Rattle.std.proofs.lemmas.Result.{err_from_is_err_and}
use Rattle.cdr_core.specs.Reading.{value_at}
use Rattle.cdr_core.specs.Spelling.{Spells}
use Rattle.cdr_core.specs.View.{form_of, value_of}
use Rattle.cdr_core.proofs.Answered.{err_answers, err_only}
use Rattle.cdr_core.proofs.Found.{found}
use Rattle.cdr_core.proofs.Only.{only}
use Rattle.cdr_core.proofs.Unique.{front_is, left_over, same_front}
use Rattle.cdr_core.proofs.reading.read.Goals as goal

pub returns-in_err-value-clause-answers : goal.returns-in_err-value-clause-answers
returns-in_err-value-clause-answers c =
    let p = err_from_is_err_and c.from_residual.result c.from_residual.ensures.1 in
    let h = rw c.new-cursor.ensures at c.in_err-value.ensures in
    rw (p.1, p.2) (err_answers c.in_err-value.field-0.0 (form_of c.args.ty.now) c.args.order c.args.at c.args.octets.now c.value.new.cursor.place h.0 h.1)

pub returns-in_err-value-clause-only : goal.returns-in_err-value-clause-only
returns-in_err-value-clause-only c =
    let p = err_from_is_err_and c.from_residual.result c.from_residual.ensures.1 in
    let h = rw c.new-cursor.ensures at c.in_err-value.ensures in
    λ v front rest is s. rw (p.1, p.2) (err_only c.in_err-value.field-0.0 (form_of c.args.ty.now) c.args.order c.args.at c.args.octets.now h.0 v front rest is s)

pub overflow_sub-result : goal.overflow_sub-result
overflow_sub-result c =
    let t = form_of c.args.ty.now in
    let h = rw c.new-cursor.ensures at c.in_ok-value.ensures.0 in
    let new = c.value.new.cursor in
    rw c.rest-left.ensures (left_over (Spells t c.args.order) (value_at t c.args.order) (found t c.args.order) (only t c.args.order) c.args.at c.args.octets.now (value_of c.in_ok-value.value) new.place new.rest h)

pub returns-clause-answers : goal.returns-clause-answers
returns-clause-answers c =
    let t = form_of c.args.ty.now in
    let h = rw c.new-cursor.ensures at c.in_ok-value.ensures.0 in
    let new = c.value.new.cursor in
    front_is (Spells t c.args.order) (value_at t c.args.order) (found t c.args.order) (only t c.args.order) c.args.at c.args.octets.now (value_of c.in_ok-value.value) new.place new.rest (length c.args.octets.now - length c.rest-left.result.now) h (ap (λ r. length c.args.octets.now - length r) c.rest-left.ensures)

pub returns-clause-only : goal.returns-clause-only
returns-clause-only c =
    let t = form_of c.args.ty.now in
    let h = rw c.new-cursor.ensures at c.in_ok-value.ensures.0 in
    let new = c.value.new.cursor in
    same_front (Spells t c.args.order) (value_at t c.args.order) (found t c.args.order) (only t c.args.order) c.args.at c.args.octets.now (value_of c.in_ok-value.value) new.place new.rest (length c.args.octets.now - length c.rest-left.result.now) h (ap (λ r. length c.args.octets.now - length r) c.rest-left.ensures)
