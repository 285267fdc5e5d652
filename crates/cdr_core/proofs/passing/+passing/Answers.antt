use Rattle.std.proofs.Common.{◌≡◌, true, false, Ok, refl, sym, ap, of_z, to_z, to_z-of_z, ◌∙◌}
use Rattle.std.proofs.lemmas.Result.{err_from_is_err_and}
use Rattle.std.specs.Int.{w128}
use Rattle.cdr_core.specs.declared.fault.CdrError.TheVariants as errors
use Rattle.cdr_core.specs.Form as form
use Rattle.cdr_core.specs.Value as value
use Rattle.cdr_core.specs.Value.{label}
use Rattle.cdr_core.specs.View.{form_of, forms_of}
use Rattle.cdr_core.specs.Private.{passing, seen, union_at}
use Rattle.cdr_core.specs.Reading.{each_at, members_at, value_at}
use Rattle.cdr_core.proofs.Loops.{array_fails, array_reads, case_chosen, case_fails, case_passed, default_chosen, default_fails, default_none, sequence_fails, sequence_reads}
use Rattle.cdr_core.proofs.Passed.{members_none, members_passed, members_stopped, passed, no_label, passes_as, stopped}
use Rattle.cdr_core.proofs.Turns.{pass_done, pass_more, pass_stops}
use Rattle.cdr_core.proofs.Views.{form_of-Array}
use Rattle.cdr_core.proofs.passing.+passing.Goals as goal

pub each-loop-preserved : goal.each-loop-preserved
each-loop-preserved t c =
    let i = c.loop.invariant in
    let old = c.args.cursor.now in
    let new = c.pass.new.cursor in
    let one = value_at (form_of c.args.ty.now) old.order in
    let read = rw i.order at c.in_ok-pass.ensures in
    let v = passed (one c.loop.cursor.place c.loop.cursor.rest) new.place new.rest read.0 in
    record {
      order = read.1;
      whole = pass_more one c.args.count c.loop.counter c.loop.cursor.place c.loop.cursor.rest v.0 new.place new.rest _ c.loop-test.true v.1 i.whole;
    }

pub each-returns-in_err-pass : goal.each-returns-in_err-pass
each-returns-in_err-pass t c =
    let p = err_from_is_err_and c.from_residual.result c.from_residual.ensures.1 in
    let i = c.loop.invariant in
    let old = c.args.cursor.now in
    let one = value_at (form_of c.args.ty.now) old.order in
    let read = rw i.order at c.in_err-pass.ensures in
    rw (p.1, p.2) (stopped (each_at one c.args.count old.place old.rest) c.in_err-pass.field-0.0
    (pass_stops c.in_err-pass.field-0.0 one c.args.count c.loop.counter c.loop.cursor.place c.loop.cursor.rest _ c.loop-test.true read i.whole))

pub each-returns : goal.each-returns
each-returns t c =
    let i = c.loop.invariant in
    (pass_done (value_at (form_of c.args.ty.now) c.args.cursor.now.order) c.args.count c.loop.counter c.loop.cursor.place c.loop.cursor.rest _ c.loop-test.false i.whole, i.order)

pub each_of-loop-ty-preserved : goal.each_of-loop-ty-preserved
each_of-loop-ty-preserved t c =
    let i = c.loop-ty.invariant in
    let order = c.args.cursor.now.order in
    let new = c.pass.new.cursor in
    let read = rw i.order at c.in_ok-pass.ensures in
    let v = passed (value_at (form_of c.ty-item.result) order c.loop-ty.cursor.place c.loop-ty.cursor.rest) new.place new.rest read.0 in
    record {
      order = read.1;
      whole = members_passed c.args.types.now c.loop-ty.ty-index c.ty-item.result order c.loop-ty.cursor.place c.loop-ty.cursor.rest v.0 new.place new.rest _ c.loop-ty-test.true c.ty-item.is v.1 i.whole;
    }

pub each_of-returns-in_err-pass : goal.each_of-returns-in_err-pass
each_of-returns-in_err-pass t c =
    let p = err_from_is_err_and c.from_residual.result c.from_residual.ensures.1 in
    let i = c.loop-ty.invariant in
    let old = c.args.cursor.now in
    let read = rw i.order at c.in_err-pass.ensures in
    rw (p.1, p.2) (stopped (members_at (forms_of c.args.types.now) old.order old.place old.rest) c.in_err-pass.field-0.0
    (members_stopped c.in_err-pass.field-0.0 c.args.types.now c.loop-ty.ty-index c.ty-item.result old.order c.loop-ty.cursor.place c.loop-ty.cursor.rest _ c.loop-ty-test.true c.ty-item.is read i.whole))

pub each_of-returns : goal.each_of-returns
each_of-returns t c =
    let i = c.loop-ty.invariant in
    (members_none c.args.types.now c.loop-ty.ty-index c.args.cursor.now.order c.loop-ty.cursor.place c.loop-ty.cursor.rest _ c.loop-ty-test.false i.whole, i.order)

pub sequence-returns : goal.sequence-returns
sequence-returns t c =
    let old = c.args.cursor.now in
    let mid = c.length.new.self in
    let n = c.in_ok-count.ensures in
    let ty = form_of c.args.ty.now in
    let bound = c.args.bound in
    let count = c.in_ok-count.count in
    passes_as c.each.result (each_at (value_at ty old.order) count) (value_at (form.sequence bound ty) old.order) old mid.place mid.rest c.each.new.cursor
    (λ v q more h. (value.sequence v, sequence_reads bound ty old.order old.place old.rest count mid.place mid.rest v q more n.0 h))
    (λ f h. sequence_fails (errors.Bad f) bound ty old.order old.place old.rest count mid.place mid.rest n.0 h) (rw n.1 at c.each.ensures)

pub pass-returns-in-Array : goal.pass-returns-in-Array
pass-returns-in-Array t c =
    let a = c.in-Array in
    let old = c.args.cursor.now in
    let ty = form_of a.member.value in
    rw (ap form_of a.is ∙ form_of-Array a.count a.member)
    (passes_as c.each.result (each_at (value_at ty old.order) a.count) (value_at (form.array a.count ty) old.order) old old.place old.rest c.each.new.cursor
    (λ v q more h. (value.array v, array_reads a.count ty old.order old.place old.rest v q more h))
    (λ f h. array_fails (errors.Bad f) a.count ty old.order old.place old.rest h) (rw c.deref-in-Array.ensures at c.each.ensures))

pub chosen-loop-case-preserved : goal.chosen-loop-case-preserved
chosen-loop-case-preserved t c =
    let i = c.loop-case.invariant in
    let old = c.args.cursor.now in
    record {
      same = i.same;
      whole = case_passed c.deref-case-items.result.now c.in-Union.default c.loop-case.case-index c.case-item.result old.order (to_z w128 (of_z w128 c.args.label)) old.place old.rest _ c.loop-case-test.true c.case-item.is (sym c.has_label.ensures ∙ c.if-has_label.false) i.whole;
    }

pub chosen-returns-then-has_label : goal.chosen-returns-then-has_label
chosen-returns-then-has_label t c =
    let i = c.loop-case.invariant in
    let whole = rw (to_z-of_z c.ranges.label) at i.whole in
    let old = c.args.cursor.now in
    let l = c.args.label in
    let cases = c.deref-case-items.result.now in
    let default = c.in-Union.default in
    let n = c.loop-case.case-index in
    let one = c.case-item.result in
    let labelled = sym (rw (to_z-of_z c.ranges.label) at c.has_label.ensures) ∙ c.if-has_label.true in
    passes_as c.pass.result (value_at (form_of one.member) old.order) (union_at (form_of c.args.union.now) old.order l) old old.place old.rest c.pass.new.cursor
    (λ v q more h. (value.value v value.no_values, case_chosen cases default n one old.order l old.place old.rest v q more _ c.loop-case-test.true c.case-item.is labelled h whole))
    (λ f h. case_fails (errors.Bad f) cases default n one old.order l old.place old.rest _ c.loop-case-test.true c.case-item.is labelled h whole) (rw i.same at c.pass.ensures)

pub chosen-returns-in-None : goal.chosen-returns-in-None
chosen-returns-in-None t c =
    let i = c.loop-case.invariant in
    let whole = rw (to_z-of_z c.ranges.label) at i.whole in
    let old = c.args.cursor.now in
    rw i.same (ap passing (default_none c.deref-case-items.result.now c.in-Union.default c.loop-case.case-index old.order c.args.label old.place old.rest _ c.loop-case-test.false c.in-None.is whole), refl)

pub chosen-returns-in-Some : goal.chosen-returns-in-Some
chosen-returns-in-Some t c =
    let i = c.loop-case.invariant in
    let whole = rw (to_z-of_z c.ranges.label) at i.whole in
    let old = c.args.cursor.now in
    let l = c.args.label in
    let cases = c.deref-case-items.result.now in
    let default = c.in-Union.default in
    let n = c.loop-case.case-index in
    let ty = c.in-Some.ty in
    passes_as c.pass-in-Some.result (value_at (form_of ty.value) old.order) (union_at (form_of c.args.union.now) old.order l) old old.place old.rest c.pass-in-Some.new.cursor
    (λ v q more h. (value.value v value.no_values, default_chosen cases default n ty old.order l old.place old.rest v q more _ c.loop-case-test.false c.in-Some.is h whole))
    (λ f h. default_fails (errors.Bad f) cases default n ty old.order l old.place old.rest _ c.loop-case-test.false c.in-Some.is h whole) (rw (i.same, c.deref.ensures) at c.pass-in-Some.ensures)

falsity : false ≡ true → ⊥
falsity e = absurd cc

pub discriminator-returns : goal.discriminator-returns
discriminator-returns t c =
    let old = c.args.cursor.now in
    let new = c.pass.new.cursor in
    let read = c.in_ok-pass.ensures in
    let ty = form_of c.args.ty.now in
    let v = passed (value_at ty old.order old.place old.rest) new.place new.rest read.0 in
    let zero = no_label ty old.order old.place old.rest v.0 new.place new.rest (λ basic. falsity (sym c.if-is_basic.false ∙ c.is_basic.ensures.1 basic)) v.1 in
    (ap (seen label) v.1 ∙ ap (λ l. Ok (l, new.place, new.rest)) zero, read.1)
