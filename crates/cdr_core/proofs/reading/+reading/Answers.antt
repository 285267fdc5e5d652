use Rattle.std.proofs.Common.{◌≡◌, ◌-◌, ◌<◌, [], length, inl, inr, refl, sym, ap, ◌∙◌, arith}
use Rattle.std.proofs.lemmas.Result.{err_from_is_err_and}
use Rattle.cdr_core.specs.Memory.{Stores, StoresEach}
use Rattle.cdr_core.specs.Private.{ReadsOn}
use Rattle.cdr_core.specs.Reading.{length_at, value_at}
use Rattle.cdr_core.specs.Value as value
use Rattle.cdr_core.specs.Value.{label}
use Rattle.cdr_core.specs.View.{form_of, value_of, values_of}
use Rattle.cdr_core.proofs.Here.{on_done, on_ends, on_fails, on_more, on_one, on_stores}
use Rattle.cdr_core.proofs.Loops.{members_more, members_end, members_done, case_passed, case_chosen, case_fails, default_none, default_chosen, default_fails, sequence_reads, sequence_fails, array_reads, array_fails}
use Rattle.cdr_core.proofs.Memory.{after_read, case_stores, cases_store, default_stores, if_memory, member_stores, members_store, union_ends}
use Rattle.cdr_core.proofs.Views.{values_of-push, form_of-Array, value_of-Array, value_of-Seq}
use Rattle.cdr_core.proofs.reading.+reading.Goals as goal

pub each-loop-alloc-preserved : goal.each-loop-alloc-preserved
each-loop-alloc-preserved t c =
    let l = c.loop-alloc in
    let i = l.invariant in
    let a = c.args in
    let old = a.cursor.now in
    let new = c.value.new.cursor in
    let read = rw i.order at c.in_ok-value.ensures in
    let lt : length l.all.items < a.count = omega (arith, c.loop-alloc-test.true, c.len.ensures, l.all.ok.0) in
    record {
      order = read.1;
      reads = rw c.in_ok-push.ensures.items (on_one (form_of a.ty.now) old.order a.count [] old.place old.rest l.all.items l.cursor.place l.cursor.rest c.in_ok-value.field-0 new.place new.rest i.reads (omega (arith, lt)) read.0);
    }

pub each-loop-alloc-preserved-in-Some : goal.each-loop-alloc-preserved-in-Some
each-loop-alloc-preserved-in-Some t c =
    let l = c.loop-alloc in
    let i = l.invariant in
    let a = c.args in
    let old = a.cursor.now in
    let new = c.value.new.cursor in
    let last = c.more.new.cursor in
    let ty = form_of a.ty.now in
    let all = c.push.new.self in
    let read = rw i.order at c.in_ok-value.ensures in
    let lt : length l.all.items < a.count = omega (arith, c.loop-alloc-test.true, c.len.ensures, l.all.ok.0) in
    let first : ReadsOn ty old.order a.count [] old.place old.rest all.items new.place new.rest =
    rw c.in_ok-push.ensures.items (on_one ty old.order a.count [] old.place old.rest l.all.items l.cursor.place l.cursor.rest c.in_ok-value.field-0 new.place new.rest i.reads (omega (arith, lt)) read.0) in
    let then = rw (← c.in-Some.ensures, read.1) at c.in_ok-all.ensures.reads in
    let left : a.count - c.len-in-Some.result ≡ a.count - (length all.items - 0) = omega (arith, c.len-in-Some.ensures, all.ok.0) in
    record {
      order = c.more.ensures.order ∙ read.1;
      reads = on_more ty old.order a.count (a.count - c.len-in-Some.result) [] old.place old.rest all.items new.place new.rest c.in_ok-all.all.items last.place last.rest first left then;
    }

pub each-returns-in_err-value : goal.each-returns-in_err-value
each-returns-in_err-value t c =
    let p = err_from_is_err_and c.from_residual.result c.from_residual.ensures.1 in
    let l = c.loop-alloc in
    let i = l.invariant in
    let a = c.args in
    let old = a.cursor.now in
    let e = c.in_err-value.field-0.0 in
    let read = rw i.order at c.in_err-value.ensures in
    let lt : length l.all.items < a.count = omega (arith, c.loop-alloc-test.true, c.len.ensures, l.all.ok.0) in
    rw (p.1, p.2) (
      on_fails (form_of a.ty.now) old.order a.count old.place old.rest l.all.items l.cursor.place l.cursor.rest i.reads e lt read.0,
      if_memory e (on_stores (form_of a.ty.now) old.order a.count old.place old.rest l.all.items l.cursor.place l.cursor.rest i.reads c.value.new.cursor.place lt) read.1,
    )

pub each-returns-in_err-push : goal.each-returns-in_err-push
each-returns-in_err-push t c =
    let p = err_from_is_err_and c.from_residual-in_err-push.result c.from_residual-in_err-push.ensures.1 in
    let l = c.loop-alloc in
    let i = l.invariant in
    let a = c.args in
    let old = a.cursor.now in
    let new = c.value.new.cursor in
    let read = rw i.order at c.in_ok-value.ensures in
    let lt : length l.all.items < a.count = omega (arith, c.loop-alloc-test.true, c.len.ensures, l.all.ok.0) in
    rw (p.1, p.2) (tt, on_ends (form_of a.ty.now) old.order a.count old.place old.rest l.all.items l.cursor.place l.cursor.rest i.reads (value_of c.in_ok-value.field-0) new.place new.rest lt read.0)

pub each-returns-in_err-all : goal.each-returns-in_err-all
each-returns-in_err-all t c =
    let p = err_from_is_err_and c.from_residual-in_err-all.result c.from_residual-in_err-all.ensures.1 in
    let l = c.loop-alloc in
    let i = l.invariant in
    let a = c.args in
    let old = a.cursor.now in
    let new = c.value.new.cursor in
    let read = rw i.order at c.in_ok-value.ensures in
    let lt : length l.all.items < a.count = omega (arith, c.loop-alloc-test.true, c.len.ensures, l.all.ok.0) in
    rw (p.1, p.2, c.in_err-all.ensures.err) (tt, on_ends (form_of a.ty.now) old.order a.count old.place old.rest l.all.items l.cursor.place l.cursor.rest i.reads (value_of c.in_ok-value.field-0) new.place new.rest lt read.0)

pub each-returns : goal.each-returns
each-returns t c =
    let l = c.loop-alloc in
    let i = l.invariant in
    let a = c.args in
    let old = a.cursor.now in
    (on_done (form_of a.ty.now) old.order a.count old.place old.rest l.all.items l.cursor.place l.cursor.rest i.reads (omega (arith, c.loop-alloc-test.false, c.len.ensures, l.all.ok.0)), i.order)

pub each_of-loop-ty-preserved : goal.each_of-loop-ty-preserved
each_of-loop-ty-preserved t c =
    let i = c.loop-ty.invariant in
    let read = rw i.order at c.in_ok-value.ensures in
    let cursor = c.member.new.cursor in
    record {
      order = read.1;
      stores = λ p h. i.stores p (members_store c.args.types.now c.loop-ty.ty-index c.ty-item.result c.args.cursor.now.order c.loop-ty.cursor.place c.loop-ty.cursor.rest (value_of c.in_ok-value.value) cursor.place cursor.rest p c.loop-ty-test.true c.ty-item.is read.0 (inr h));
      room = omega (arith, i.room, c.push_member.ensures.room);
      whole = rw (c.in_ok-push_member.ensures.ok, values_of-push)
          (members_more c.args.types.now c.loop-ty.ty-index c.ty-item.result c.args.cursor.now.order (values_of c.loop-ty.all.items) c.loop-ty.cursor.place c.loop-ty.cursor.rest (value_of c.in_ok-value.value) cursor.place cursor.rest _ c.loop-ty-test.true c.ty-item.is read.0 i.whole);
    }

pub each_of-returns-in_err-value-clause-gives : goal.each_of-returns-in_err-value-clause-gives
each_of-returns-in_err-value-clause-gives t c =
    let p = err_from_is_err_and c.from_residual.result c.from_residual.ensures.1 in
    let i = c.loop-ty.invariant in
    let read = rw i.order at c.in_err-value.ensures in
    rw (p.1, p.2) (members_end c.in_err-value.field-0.0 c.args.types.now c.loop-ty.ty-index c.ty-item.result c.args.cursor.now.order (values_of c.loop-ty.all.items) c.loop-ty.cursor.place c.loop-ty.cursor.rest _ c.loop-ty-test.true c.ty-item.is read.0 i.whole, if_memory c.in_err-value.field-0.0 (λ h. i.stores c.member.new.cursor.place (member_stores c.args.types.now c.loop-ty.ty-index c.ty-item.result c.args.cursor.now.order c.loop-ty.cursor.place c.loop-ty.cursor.rest c.member.new.cursor.place c.loop-ty-test.true c.ty-item.is h)) read.1)

pub each_of-returns-clause-gives : goal.each_of-returns-clause-gives
each_of-returns-clause-gives t c =
    let i = c.loop-ty.invariant in
    (members_done c.args.types.now c.loop-ty.ty-index c.args.cursor.now.order (values_of c.loop-ty.all.items) c.loop-ty.cursor.place c.loop-ty.cursor.rest _ c.loop-ty-test.false i.whole, i.order)

pub chosen-loop-case-preserved : goal.chosen-loop-case-preserved
chosen-loop-case-preserved t c =
    let i = c.loop-case.invariant in
    let l = label (value_of c.args.discriminator.now) in
    record {
      same = i.same;
      stores = λ p h. i.stores p (cases_store c.deref-case-items.result.now c.in-Union.default c.loop-case.case-index c.case-item.result c.args.cursor.now.order l c.args.cursor.now.place c.args.cursor.now.rest p c.loop-case-test.true c.case-item.is (sym c.is_labelled.ensures ∙ c.if-is_labelled.false) h);
      whole = case_passed c.deref-case-items.result.now c.in-Union.default c.loop-case.case-index c.case-item.result c.args.cursor.now.order l c.args.cursor.now.place c.args.cursor.now.rest _ c.loop-case-test.true c.case-item.is (sym c.is_labelled.ensures ∙ c.if-is_labelled.false) i.whole;
    }

pub chosen-returns-then-is_labelled : goal.chosen-returns-then-is_labelled
chosen-returns-then-is_labelled t c =
    let i = c.loop-case.invariant in
    let l = label (value_of c.args.discriminator.now) in
    let read = rw i.same at c.in_ok-member.ensures in
    let cursor = c.value.new.cursor in
    rw c.in_ok-new.ensures.ok (case_chosen c.deref-case-items.result.now c.in-Union.default c.loop-case.case-index c.case-item.result c.args.cursor.now.order l c.args.cursor.now.place c.args.cursor.now.rest (value_of c.in_ok-member.member) cursor.place cursor.rest _ c.loop-case-test.true c.case-item.is (sym c.is_labelled.ensures ∙ c.if-is_labelled.true) read.0 i.whole, read.1)

pub chosen-returns-in_err-member : goal.chosen-returns-in_err-member
chosen-returns-in_err-member t c =
    let p = err_from_is_err_and c.from_residual.result c.from_residual.ensures.1 in
    let i = c.loop-case.invariant in
    let l = label (value_of c.args.discriminator.now) in
    let read = rw i.same at c.in_err-member.ensures in
    rw (p.1, p.2) (case_fails c.in_err-member.field-0.0 c.deref-case-items.result.now c.in-Union.default c.loop-case.case-index c.case-item.result c.args.cursor.now.order l c.args.cursor.now.place c.args.cursor.now.rest _ c.loop-case-test.true c.case-item.is (sym c.is_labelled.ensures ∙ c.if-is_labelled.true) read.0 i.whole, if_memory c.in_err-member.field-0.0 (λ h. i.stores c.value.new.cursor.place (case_stores c.deref-case-items.result.now c.in-Union.default c.loop-case.case-index c.case-item.result c.args.cursor.now.order l c.args.cursor.now.place c.args.cursor.now.rest c.value.new.cursor.place c.loop-case-test.true c.case-item.is (sym c.is_labelled.ensures ∙ c.if-is_labelled.true) h)) read.1)

pub chosen-returns-in-None : goal.chosen-returns-in-None
chosen-returns-in-None t c =
    let i = c.loop-case.invariant in
    let l = label (value_of c.args.discriminator.now) in
    rw i.same (default_none c.deref-case-items.result.now c.in-Union.default c.loop-case.case-index c.args.cursor.now.order l c.args.cursor.now.place c.args.cursor.now.rest _ c.loop-case-test.false c.in-None.is i.whole, refl)

pub chosen-returns-in_ok-new-in-Some : goal.chosen-returns-in_ok-new-in-Some
chosen-returns-in_ok-new-in-Some t c =
    let i = c.loop-case.invariant in
    let l = label (value_of c.args.discriminator.now) in
    let read = rw (i.same, c.deref.ensures) at c.in_ok-member-in-Some.ensures in
    let cursor = c.value-in-Some.new.cursor in
    rw c.in_ok-new-in-Some.ensures.ok (default_chosen c.deref-case-items.result.now c.in-Union.default c.loop-case.case-index c.in-Some.ty c.args.cursor.now.order l c.args.cursor.now.place c.args.cursor.now.rest (value_of c.in_ok-member-in-Some.member) cursor.place cursor.rest _ c.loop-case-test.false c.in-Some.is read.0 i.whole, read.1)

pub chosen-returns-in_err-member-in-Some : goal.chosen-returns-in_err-member-in-Some
chosen-returns-in_err-member-in-Some t c =
    let p = err_from_is_err_and c.from_residual-in_err-member-in-Some.result c.from_residual-in_err-member-in-Some.ensures.1 in
    let i = c.loop-case.invariant in
    let l = label (value_of c.args.discriminator.now) in
    let read = rw (i.same, c.deref.ensures) at c.in_err-member-in-Some.ensures in
    rw (p.1, p.2) (default_fails c.in_err-member-in-Some.field-0.0 c.deref-case-items.result.now c.in-Union.default c.loop-case.case-index c.in-Some.ty c.args.cursor.now.order l c.args.cursor.now.place c.args.cursor.now.rest _ c.loop-case-test.false c.in-Some.is read.0 i.whole, if_memory c.in_err-member-in-Some.field-0.0 (λ h. i.stores c.value-in-Some.new.cursor.place (default_stores c.deref-case-items.result.now c.in-Union.default c.loop-case.case-index c.in-Some.ty c.args.cursor.now.order l c.args.cursor.now.place c.args.cursor.now.rest c.value-in-Some.new.cursor.place c.loop-case-test.false c.in-Some.is h)) read.1)

pub sequence-returns : goal.sequence-returns
sequence-returns t c =
    let old = c.args.cursor.now in
    let mid = c.length.new.self in
    let new = c.each.new.cursor in
    let n = c.in_ok-count.ensures in
    let read = rw n.1 at c.in_ok-each.ensures in
    rw value_of-Seq
    (sequence_reads c.args.bound (form_of c.args.ty.now) old.order old.place old.rest c.in_ok-count.count mid.place mid.rest (values_of c.in_ok-each.field-0.items) new.place new.rest n.0 read.0, read.1)

pub sequence-returns-in_err-each : goal.sequence-returns-in_err-each
sequence-returns-in_err-each t c =
    let p = err_from_is_err_and c.from_residual-in_err-each.result c.from_residual-in_err-each.ensures.1 in
    let old = c.args.cursor.now in
    let mid = c.length.new.self in
    let n = c.in_ok-count.ensures in
    let read = rw n.1 at c.in_err-each.ensures in
    rw (p.1, p.2)
    (sequence_fails c.in_err-each.field-0.0 c.args.bound (form_of c.args.ty.now) old.order old.place old.rest c.in_ok-count.count mid.place mid.rest n.0 read.0, if_memory c.in_err-each.field-0.0 (after_read (length_at old.order 0 c.args.bound old.place old.rest) c.in_ok-count.count mid.place mid.rest (λ n q rest. StoresEach (value_at (form_of c.args.ty.now) old.order) (Stores (form_of c.args.ty.now) old.order) n q rest c.each.new.cursor.place) n.0) read.1)

pub value-returns-in_ok-each-in-Array : goal.value-returns-in_ok-each-in-Array
value-returns-in_ok-each-in-Array t c =
    let a = c.in-Array in
    let old = c.args.cursor.now in
    let new = c.each.new.cursor in
    let read = rw c.deref-in-Array.ensures at c.in_ok-each-in-Array.ensures in
    rw (ap form_of a.is ∙ form_of-Array a.count a.member, value_of-Array)
    (array_reads a.count (form_of a.member.value) old.order old.place old.rest (values_of c.in_ok-each-in-Array.field-0.items) new.place new.rest read.0, read.1)

pub value-returns-in_err-each-in-Array : goal.value-returns-in_err-each-in-Array
value-returns-in_err-each-in-Array t c =
    let p = err_from_is_err_and c.from_residual.result c.from_residual.ensures.1 in
    let a = c.in-Array in
    let old = c.args.cursor.now in
    let read = rw c.deref-in-Array.ensures at c.in_err-each-in-Array.ensures in
    rw (p.1, p.2, ap form_of a.is ∙ form_of-Array a.count a.member)
    (array_fails c.in_err-each-in-Array.field-0.0 a.count (form_of a.member.value) old.order old.place old.rest read.0, read.1)

pub each_of-returns-in_err-push_member-clause-gives : goal.each_of-returns-in_err-push_member-clause-gives
each_of-returns-in_err-push_member-clause-gives t c =
    let p = err_from_is_err_and c.from_residual-in_err-push_member.result c.from_residual-in_err-push_member.ensures.1 in
    let i = c.loop-ty.invariant in
    let read = rw i.order at c.in_ok-value.ensures in
    let cursor = c.member.new.cursor in
    rw (p.1, p.2) (tt, i.stores cursor.place (members_store c.args.types.now c.loop-ty.ty-index c.ty-item.result c.args.cursor.now.order c.loop-ty.cursor.place c.loop-ty.cursor.rest (value_of c.in_ok-value.value) cursor.place cursor.rest cursor.place c.loop-ty-test.true c.ty-item.is read.0 (inl refl)))

pub chosen-returns-in_err-new : goal.chosen-returns-in_err-new
chosen-returns-in_err-new t c =
    let p = err_from_is_err_and c.from_residual-in_err-new.result c.from_residual-in_err-new.ensures.1 in
    let i = c.loop-case.invariant in
    let l = label (value_of c.args.discriminator.now) in
    let v = value_of c.in_ok-member.member in
    let read = rw i.same at c.in_ok-member.ensures in
    let old = c.args.cursor.now in
    let cursor = c.value.new.cursor in
    rw (p.1, p.2) (
      tt,
      union_ends (form_of c.args.union.now) old.order l old.place old.rest (value.value v value.no_values) cursor.place cursor.rest
          (case_chosen c.deref-case-items.result.now c.in-Union.default c.loop-case.case-index c.case-item.result old.order l old.place old.rest v cursor.place cursor.rest _ c.loop-case-test.true c.case-item.is (sym c.is_labelled.ensures ∙ c.if-is_labelled.true) read.0 i.whole),
    )

pub chosen-returns-in_err-new-in-Some : goal.chosen-returns-in_err-new-in-Some
chosen-returns-in_err-new-in-Some t c =
    let p = err_from_is_err_and c.from_residual-in_err-new-in-Some.result c.from_residual-in_err-new-in-Some.ensures.1 in
    let i = c.loop-case.invariant in
    let l = label (value_of c.args.discriminator.now) in
    let v = value_of c.in_ok-member-in-Some.member in
    let read = rw (i.same, c.deref.ensures) at c.in_ok-member-in-Some.ensures in
    let old = c.args.cursor.now in
    let cursor = c.value-in-Some.new.cursor in
    rw (p.1, p.2) (
      tt,
      union_ends (form_of c.args.union.now) old.order l old.place old.rest (value.value v value.no_values) cursor.place cursor.rest
          (default_chosen c.deref-case-items.result.now c.in-Union.default c.loop-case.case-index c.in-Some.ty old.order l old.place old.rest v cursor.place cursor.rest _ c.loop-case-test.false c.in-Some.is read.0 i.whole),
    )
