use Rattle.std.proofs.Common.{◌-◌, length, ap}
use Rattle.std.proofs.lemmas.Result.{err_from_is_err_and}
use Rattle.cdr_core.specs.Reading.{members_at}
use Rattle.cdr_core.specs.Spelling.{SpellsMembers}
use Rattle.cdr_core.specs.View.{forms_of, values_of}
use Rattle.cdr_core.proofs.Answered.{list_err, list_err_only}
use Rattle.cdr_core.proofs.Found.{members_found}
use Rattle.cdr_core.proofs.Only.{members_only}
use Rattle.cdr_core.proofs.Unique.{front_is, left_over, same_front}
use Rattle.cdr_core.proofs.reading.read_list_into.Goals as goal

pub returns-in_err-values-clause-answers : goal.returns-in_err-values-clause-answers
returns-in_err-values-clause-answers c =
    let p = err_from_is_err_and c.from_residual.result c.from_residual.ensures.1 in
    let h = rw c.new-cursor.ensures at c.in_err-values.ensures.gives in
    rw (p.1, p.2) (list_err c.in_err-values.field-0.0 (forms_of c.args.types.now) c.args.order c.args.at c.args.octets.now c.each_of.new.cursor.place h.0 h.1)

pub returns-in_err-values-clause-only : goal.returns-in_err-values-clause-only
returns-in_err-values-clause-only c =
    let p = err_from_is_err_and c.from_residual.result c.from_residual.ensures.1 in
    let h = rw c.new-cursor.ensures at c.in_err-values.ensures.gives in
    λ v front rest is s. rw (p.1, p.2) (list_err_only c.in_err-values.field-0.0 (forms_of c.args.types.now) c.args.order c.args.at c.args.octets.now h.0 v front rest is s)

pub overflow_sub-result : goal.overflow_sub-result
overflow_sub-result c =
    let t = forms_of c.args.types.now in
    let h = rw c.new-cursor.ensures at c.in_ok-values.ensures.gives.0 in
    let new = c.each_of.new.cursor in
    rw c.rest-left.ensures (left_over (SpellsMembers t c.args.order) (members_at t c.args.order) (members_found t c.args.order) (members_only t c.args.order) c.args.at c.args.octets.now (values_of c.in_ok-values.values.items) new.place new.rest h)

pub returns-clause-answers : goal.returns-clause-answers
returns-clause-answers c =
    let t = forms_of c.args.types.now in
    let h = rw c.new-cursor.ensures at c.in_ok-values.ensures.gives.0 in
    let new = c.each_of.new.cursor in
    front_is (SpellsMembers t c.args.order) (members_at t c.args.order) (members_found t c.args.order) (members_only t c.args.order) c.args.at c.args.octets.now (values_of c.in_ok-values.values.items) new.place new.rest (length c.args.octets.now - length c.rest-left.result.now) h (ap (λ r. length c.args.octets.now - length r) c.rest-left.ensures)

pub returns-clause-only : goal.returns-clause-only
returns-clause-only c =
    let t = forms_of c.args.types.now in
    let h = rw c.new-cursor.ensures at c.in_ok-values.ensures.gives.0 in
    let new = c.each_of.new.cursor in
    same_front (SpellsMembers t c.args.order) (members_at t c.args.order) (members_found t c.args.order) (members_only t c.args.order) c.args.at c.args.octets.now (values_of c.in_ok-values.values.items) new.place new.rest (length c.args.octets.now - length c.rest-left.result.now) h (ap (λ r. length c.args.octets.now - length r) c.rest-left.ensures)
