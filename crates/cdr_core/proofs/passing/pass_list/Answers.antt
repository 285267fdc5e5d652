use Rattle.std.proofs.Common.{◌-◌, Ok, length, ap}
use Rattle.std.proofs.lemmas.Result.{err_from_is_err_and}
use Rattle.cdr_core.specs.Reading.{members_at}
use Rattle.cdr_core.specs.Spelling.{SpellsMembers}
use Rattle.cdr_core.specs.View.{forms_of}
use Rattle.cdr_core.proofs.Answered.{gets_or_fails}
use Rattle.cdr_core.proofs.Found.{members_found}
use Rattle.cdr_core.proofs.Only.{members_only}
use Rattle.cdr_core.proofs.Passed.{passed}
use Rattle.cdr_core.proofs.Stops.{members_tell}
use Rattle.cdr_core.proofs.Unique.{front_is, left_over, same_front}
use Rattle.cdr_core.proofs.passing.pass_list.Goals as goal

pub returns-in_err-each_of-clause-passes : goal.returns-in_err-each_of-clause-passes
returns-in_err-each_of-clause-passes c =
    let p = err_from_is_err_and c.from_residual.result c.from_residual.ensures.1 in
    let h = rw c.new-cursor.ensures at c.in_err-each_of.ensures in
    rw (p.1, p.2) (members_tell (forms_of c.args.types.now) c.args.order c.args.at c.args.octets.now c.in_err-each_of.field-0.0 h)

pub returns-in_err-each_of-clause-only : goal.returns-in_err-each_of-clause-only
returns-in_err-each_of-clause-only c =
    let t = forms_of c.args.types.now in
    let h = rw c.new-cursor.ensures at c.in_err-each_of.ensures in
    λ vs front rest is s. absurd (gets_or_fails (SpellsMembers t c.args.order) (members_at t c.args.order) (members_only t c.args.order) c.args.at c.args.octets.now c.in_err-each_of.field-0.0 h vs front rest is s)

pub overflow_sub-result : goal.overflow_sub-result
overflow_sub-result c =
    let t = forms_of c.args.types.now in
    let h = rw c.new-cursor.ensures at c.in_ok-each_of.ensures.0 in
    let new = c.each_of.new.cursor in
    let v = passed (members_at t c.args.order c.args.at c.args.octets.now) new.place new.rest h in
    rw c.rest-left.ensures (left_over (SpellsMembers t c.args.order) (members_at t c.args.order) (members_found t c.args.order) (members_only t c.args.order) c.args.at c.args.octets.now v.0 new.place new.rest v.1)

pub returns-clause-passes : goal.returns-clause-passes
returns-clause-passes c =
    let t = forms_of c.args.types.now in
    let h = rw c.new-cursor.ensures at c.in_ok-each_of.ensures.0 in
    let new = c.each_of.new.cursor in
    let v = passed (members_at t c.args.order c.args.at c.args.octets.now) new.place new.rest h in
    let f = front_is (SpellsMembers t c.args.order) (members_at t c.args.order) (members_found t c.args.order) (members_only t c.args.order) c.args.at c.args.octets.now v.0 new.place new.rest (length c.args.octets.now - length c.rest-left.result.now) v.1 (ap (λ r. length c.args.octets.now - length r) c.rest-left.ensures) in
    (f.0, (v.0, f.1))

pub returns-clause-only : goal.returns-clause-only
returns-clause-only c =
    let t = forms_of c.args.types.now in
    let h = rw c.new-cursor.ensures at c.in_ok-each_of.ensures.0 in
    let new = c.each_of.new.cursor in
    let v = passed (members_at t c.args.order c.args.at c.args.octets.now) new.place new.rest h in
    λ vs front rest is s. ap (λ n. Ok n) (same_front (SpellsMembers t c.args.order) (members_at t c.args.order) (members_found t c.args.order) (members_only t c.args.order) c.args.at c.args.octets.now v.0 new.place new.rest (length c.args.octets.now - length c.rest-left.result.now) v.1 (ap (λ r. length c.args.octets.now - length r) c.rest-left.ensures) vs front rest is s).1
