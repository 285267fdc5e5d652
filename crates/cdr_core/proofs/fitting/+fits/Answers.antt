use Rattle.std.proofs.Common.{rules, ◌<◌, ◌≤◌, length, sym, ap, ◌∙◌, arith}
use Rattle.cdr_core.proofs.Tests.{and_not, and_then, case_chosen, case_passed, default_chosen, each_failed, each_held, each_passed, has_chosen, form_of-Boolean, form_of-Char, form_of-Octet, form_of-Short, form_of-UShort, form_of-Long, form_of-ULong, form_of-LongLong, form_of-ULongLong, form_of-Str, form_of-Octets, form_of-Enum, form_of-Struct, form_of-Union, members_failed, members_held, members_passed, same, unfit}
use Rattle.cdr_core.proofs.Views.{form_of-Array, form_of-Seq, value_of-Array, value_of-Seq, value_of-Struct, value_of-Union}
use Rattle.cdr_core.specs.Private.{HasChosen}
use Rattle.cdr_core.specs.Fitting.{AllFit, Fits, FitsChosen, FitsMembers}
use Rattle.cdr_core.specs.Form as form
use Rattle.cdr_core.specs.Value.{label}
use Rattle.cdr_core.specs.View.{cases_of, form_of, forms_of, held, value_of, values_of}
use Rattle.cdr_core.specs.declared.types.Case.{the_lemmas as case_lemmas}
use Rattle.cdr_core.specs.declared.types.Ty.{the_lemmas}
use Rattle.cdr_core.specs.declared.values.Val.{Val}
use Rattle.cdr_core.specs.declared.values.Val.{the_lemmas as val_lemmas}
use Rattle.cdr_core.proofs.fitting.+fits.Goals as goal

pub all_fit-loop-value-init : goal.all_fit-loop-value-init
all_fit-loop-value-init t c = same (AllFit (Fits (form_of c.args.ty.now)) (values_of c.args.all.now))

pub all_fit-loop-value-preserved : goal.all_fit-loop-value-preserved
all_fit-loop-value-preserved t c =
    let F = Fits (form_of c.args.ty.now) in
    each_passed Val (AllFit F (values_of c.args.all.now)) (λ v. F (value_of v)) (λ vs. AllFit F (values_of vs)) c.args.all.now c.loop-value.value-index c.value-item.result c.value_fits.result
    (λ vs. same (F (value_of c.value-item.result) × AllFit F (values_of vs))) c.loop-value-test.true c.value-item.is c.value_fits.ensures c.if-not-value_fits.false c.loop-value.invariant

pub all_fit-returns-then-not-value_fits : goal.all_fit-returns-then-not-value_fits
all_fit-returns-then-not-value_fits t c =
    let F = Fits (form_of c.args.ty.now) in
    each_failed Val (AllFit F (values_of c.args.all.now)) (λ v. F (value_of v)) (λ vs. AllFit F (values_of vs)) c.args.all.now c.loop-value.value-index c.value-item.result c.value_fits.result
    (λ vs. same (F (value_of c.value-item.result) × AllFit F (values_of vs))) c.loop-value-test.true c.value-item.is c.value_fits.ensures c.if-not-value_fits.true c.loop-value.invariant

pub all_fit-returns : goal.all_fit-returns
all_fit-returns t c =
    let F = Fits (form_of c.args.ty.now) in
    each_held Val (AllFit F (values_of c.args.all.now)) (λ vs. AllFit F (values_of vs)) c.args.all.now c.loop-value.value-index tt c.loop-value-test.false c.loop-value.invariant

pub members_fit-loop-i-init : goal.members_fit-loop-i-init
members_fit-loop-i-init t c = same (FitsMembers (forms_of c.args.types.now) (values_of c.args.all.now))

pub members_fit-loop-i-preserved : goal.members_fit-loop-i-preserved
members_fit-loop-i-preserved t c =
    let lt : c.loop-i.i < length c.args.all.now = omega arith in
    members_passed (FitsMembers (forms_of c.args.types.now) (values_of c.args.all.now)) c.args.types.now c.args.all.now c.loop-i.i c.index-types-i.result c.index-all-i.result c.value_fits.result
    c.loop-i-test.true lt c.index-types-i.is c.index-all-i.is c.value_fits.ensures c.if-not-value_fits.false c.loop-i.invariant

pub members_fit-returns-then-not-value_fits : goal.members_fit-returns-then-not-value_fits
members_fit-returns-then-not-value_fits t c =
    let lt : c.loop-i.i < length c.args.all.now = omega arith in
    members_failed (FitsMembers (forms_of c.args.types.now) (values_of c.args.all.now)) c.args.types.now c.args.all.now c.loop-i.i c.index-types-i.result c.index-all-i.result c.value_fits.result
    c.loop-i-test.true lt c.index-types-i.is c.index-all-i.is c.value_fits.ensures c.if-not-value_fits.true c.loop-i.invariant

pub members_fit-returns : goal.members_fit-returns
members_fit-returns t c =
    let le : length c.args.all.now ≤ c.loop-i.i = omega arith in
    members_held (FitsMembers (forms_of c.args.types.now) (values_of c.args.all.now)) c.args.types.now c.args.all.now c.loop-i.i c.loop-i-test.false le c.loop-i.invariant

pub chosen_fits-loop-case-init : goal.chosen_fits-loop-case-init
chosen_fits-loop-case-init t c =
    let u = c.in-Union in
    has_chosen c.args.union.now u.field-0 u.cases u.default c.deref-case-items.result.now (label (value_of c.args.discriminator.now)) (held c.args.member.now) u.is c.deref-case-items.ensures.value

pub chosen_fits-loop-case-preserved : goal.chosen_fits-loop-case-preserved
chosen_fits-loop-case-preserved t c =
    let l = label (value_of c.args.discriminator.now) in
    let ms = held c.args.member.now in
    case_passed (HasChosen (form_of c.args.union.now) l ms) c.deref-case-items.result.now c.in-Union.default c.loop-case.case-index c.case-item.result l ms
    c.loop-case-test.true c.case-item.is (sym c.is_labelled.ensures ∙ c.if-is_labelled.false) c.loop-case.invariant

pub chosen_fits-returns-then-is_labelled : goal.chosen_fits-returns-then-is_labelled
chosen_fits-returns-then-is_labelled t c =
    let l = label (value_of c.args.discriminator.now) in
    let ms = held c.args.member.now in
    case_chosen (HasChosen (form_of c.args.union.now) l ms) c.deref-case-items.result.now c.in-Union.default c.loop-case.case-index c.case-item.result l ms c.one_fits.result
    c.loop-case-test.true c.case-item.is (sym c.is_labelled.ensures ∙ c.if-is_labelled.true) c.one_fits.ensures c.loop-case.invariant

pub chosen_fits-returns-in-Some : goal.chosen_fits-returns-in-Some
chosen_fits-returns-in-Some t c =
    let l = label (value_of c.args.discriminator.now) in
    let ms = held c.args.member.now in
    default_chosen (HasChosen (form_of c.args.union.now) l ms) c.deref-case-items.result.now c.in-Union.default c.loop-case.case-index c.in-Some.ty c.deref.result.now l ms c.one_fits-in-Some.result
    c.loop-case-test.false c.in-Some.is c.deref.ensures c.one_fits-in-Some.ensures c.loop-case.invariant

pub value_fits-returns-in-Seq-Seq : goal.value_fits-returns-in-Seq-Seq
value_fits-returns-in-Seq-Seq t c =
    let a = c.in-Seq-Seq in
    let f = ap form_of a.is-0 ∙ form_of-Seq a.bound a.member in
    let w = ap value_of a.is-1 ∙ value_of-Seq a.all in
    rw (f, w) (rw (c.deref-in-Seq-Seq.ensures, c.deref-in-Seq-Seq-2.ensures.value) at c.sequence_fits.ensures)

pub value_fits-returns-in-Array-Array : goal.value_fits-returns-in-Array-Array
value_fits-returns-in-Array-Array t c =
    let a = c.in-Array-Array in
    let f = ap form_of a.is-0 ∙ form_of-Array a.count a.member in
    let w = ap value_of a.is-1 ∙ value_of-Array a.all in
    rw (f, w) (rw (c.deref-in-Array-Array.ensures, c.deref-in-Array-Array-2.ensures.value) at c.array_fits.ensures)

pub value_fits-returns-in_default : goal.value_fits-returns-in_default
value_fits-returns-in_default t c = unfit c.args.ty.now form.boolean c.args.value.now (ap form_of c.in_default.is-0 ∙ form_of-Boolean) (λ w. c.in_default.not-Boolean-1 w.0 w.1)

pub value_fits-returns-in_default-2 : goal.value_fits-returns-in_default-2
value_fits-returns-in_default-2 t c = unfit c.args.ty.now (form.number form.char) c.args.value.now (ap form_of c.in_default.is-0 ∙ form_of-Char) (λ w. c.in_default.not-Char-1 w.0 w.1)

pub value_fits-returns-in_default-3 : goal.value_fits-returns-in_default-3
value_fits-returns-in_default-3 t c = unfit c.args.ty.now (form.number form.octet) c.args.value.now (ap form_of c.in_default.is-0 ∙ form_of-Octet) (λ w. c.in_default.not-Octet-1 w.0 w.1)

pub value_fits-returns-in_default-4 : goal.value_fits-returns-in_default-4
value_fits-returns-in_default-4 t c = unfit c.args.ty.now (form.number form.short) c.args.value.now (ap form_of c.in_default.is-0 ∙ form_of-Short) (λ w. c.in_default.not-Short-1 w.0 w.1)

pub value_fits-returns-in_default-5 : goal.value_fits-returns-in_default-5
value_fits-returns-in_default-5 t c = unfit c.args.ty.now (form.number form.ushort) c.args.value.now (ap form_of c.in_default.is-0 ∙ form_of-UShort) (λ w. c.in_default.not-UShort-1 w.0 w.1)

pub value_fits-returns-in_default-6 : goal.value_fits-returns-in_default-6
value_fits-returns-in_default-6 t c = unfit c.args.ty.now (form.number form.long) c.args.value.now (ap form_of c.in_default.is-0 ∙ form_of-Long) (λ w. c.in_default.not-Long-1 w.0 w.1)

pub value_fits-returns-in_default-7 : goal.value_fits-returns-in_default-7
value_fits-returns-in_default-7 t c = unfit c.args.ty.now (form.number form.ulong) c.args.value.now (ap form_of c.in_default.is-0 ∙ form_of-ULong) (λ w. c.in_default.not-ULong-1 w.0 w.1)

pub value_fits-returns-in_default-8 : goal.value_fits-returns-in_default-8
value_fits-returns-in_default-8 t c = unfit c.args.ty.now (form.number form.longlong) c.args.value.now (ap form_of c.in_default.is-0 ∙ form_of-LongLong) (λ w. c.in_default.not-LongLong-1 w.0 w.1)

pub value_fits-returns-in_default-9 : goal.value_fits-returns-in_default-9
value_fits-returns-in_default-9 t c = unfit c.args.ty.now (form.number form.ulonglong) c.args.value.now (ap form_of c.in_default.is-0 ∙ form_of-ULongLong) (λ w. c.in_default.not-ULongLong-1 w.0 w.1)

pub value_fits-returns-in_default-10 : goal.value_fits-returns-in_default-10
value_fits-returns-in_default-10 t c = unfit c.args.ty.now (form.string c.in_default.field-0-0) c.args.value.now (ap form_of c.in_default.is-0 ∙ form_of-Str c.in_default.field-0-0) (λ w. c.in_default.not-Str-1 w.0 w.1)

pub value_fits-returns-in_default-11 : goal.value_fits-returns-in_default-11
value_fits-returns-in_default-11 t c = unfit c.args.ty.now (form.octets c.in_default.field-0-0) c.args.value.now (ap form_of c.in_default.is-0 ∙ form_of-Octets c.in_default.field-0-0) (λ w. c.in_default.not-Octets-1 w.0 w.1)

pub value_fits-returns-in_default-12 : goal.value_fits-returns-in_default-12
value_fits-returns-in_default-12 t c = unfit c.args.ty.now (form.sequence c.in_default.field-0-0 (form_of c.in_default.field-1-0.value)) c.args.value.now (ap form_of c.in_default.is-0 ∙ form_of-Seq c.in_default.field-0-0 c.in_default.field-1-0) (λ w. c.in_default.not-Seq-1 w.0 w.1)

pub value_fits-returns-in_default-13 : goal.value_fits-returns-in_default-13
value_fits-returns-in_default-13 t c = unfit c.args.ty.now (form.array c.in_default.field-0-0 (form_of c.in_default.field-1-0.value)) c.args.value.now (ap form_of c.in_default.is-0 ∙ form_of-Array c.in_default.field-0-0 c.in_default.field-1-0) (λ w. c.in_default.not-Array-1 w.0 w.1)

pub value_fits-returns-in_default-14 : goal.value_fits-returns-in_default-14
value_fits-returns-in_default-14 t c = unfit c.args.ty.now (form.enumeration c.in_default.field-0-0) c.args.value.now (ap form_of c.in_default.is-0 ∙ form_of-Enum c.in_default.field-0-0) (λ w. c.in_default.not-Enum-1 w.0 w.1)

pub value_fits-returns-in_default-15 : goal.value_fits-returns-in_default-15
value_fits-returns-in_default-15 t c = unfit c.args.ty.now (form.structure (forms_of c.in_default.field-0-0.items)) c.args.value.now (ap form_of c.in_default.is-0 ∙ form_of-Struct c.in_default.field-0-0) (λ w. c.in_default.not-Struct-1 w.0 w.1)

pub value_fits-returns-in_default-16 : goal.value_fits-returns-in_default-16
value_fits-returns-in_default-16 t c = unfit c.args.ty.now (form.union (form_of c.in_default.field-0-0.value) (cases_of c.in_default.field-1-0.items c.in_default.field-2-0)) c.args.value.now (ap form_of c.in_default.is-0 ∙ form_of-Union c.in_default.field-0-0 c.in_default.field-1-0 c.in_default.field-2-0) (λ w. c.in_default.not-Union-1 w.0 w.1 w.2)

pub value_fits-returns-in-Struct-Struct : goal.value_fits-returns-in-Struct-Struct
value_fits-returns-in-Struct-Struct t c =
    let a = c.in-Struct-Struct in
    let f = ap form_of a.is-0 ∙ form_of-Struct a.members in
    let w = ap value_of a.is-1 ∙ value_of-Struct a.all in
    rw (f, w) (rw (c.deref-in-Struct-Struct.ensures.value, c.deref-in-Struct-Struct-2.ensures.value) at c.members_fit.ensures)

pub value_fits-returns-then-value_fits : goal.value_fits-returns-then-value_fits
value_fits-returns-then-value_fits t c =
    let a = c.in-Union-Union in
    let f = ap form_of a.is-0 ∙ form_of-Union a.own a.field-1-0 a.field-2-0 in
    let w = ap value_of a.is-1 ∙ value_of-Union a.discriminator a.member in
    let own = rw (c.deref-in-Union-Union.ensures, c.deref-in-Union-Union-2.ensures) at c.value_fits.ensures in
    let chosen = rw (f, c.deref-then-value_fits.ensures) at c.chosen_fits.ensures in
    rw (f, w) (and_then (Fits (form_of a.own.value) (value_of a.discriminator.value)) (FitsChosen (cases_of a.field-1-0.items a.field-2-0) (label (value_of a.discriminator.value)) (held a.member)) c.value_fits.result c.chosen_fits.result own c.if-value_fits.true chosen)

pub value_fits-returns-else-value_fits : goal.value_fits-returns-else-value_fits
value_fits-returns-else-value_fits t c =
    let a = c.in-Union-Union in
    let f = ap form_of a.is-0 ∙ form_of-Union a.own a.field-1-0 a.field-2-0 in
    let w = ap value_of a.is-1 ∙ value_of-Union a.discriminator a.member in
    let own = rw (c.deref-in-Union-Union.ensures, c.deref-in-Union-Union-2.ensures) at c.value_fits.ensures in
    rw (f, w) (and_not (Fits (form_of a.own.value) (value_of a.discriminator.value)) (FitsChosen (cases_of a.field-1-0.items a.field-2-0) (label (value_of a.discriminator.value)) (held a.member)) c.value_fits.result own c.if-value_fits.false)

pub all_fit-value_fits-requires : goal.all_fit-value_fits-requires
all_fit-value_fits-requires t c = search (rules, the_lemmas, case_lemmas)

pub array_fits-all_fit-requires : goal.array_fits-all_fit-requires
array_fits-all_fit-requires t c = search (rules, the_lemmas, case_lemmas)

pub chosen_fits-one_fits-requires : goal.chosen_fits-one_fits-requires
chosen_fits-one_fits-requires t c = search (rules, the_lemmas, case_lemmas)

pub chosen_fits-one_fits-requires-in-Some : goal.chosen_fits-one_fits-requires-in-Some
chosen_fits-one_fits-requires-in-Some t c = search (rules, the_lemmas, case_lemmas)

pub members_fit-value_fits-requires : goal.members_fit-value_fits-requires
members_fit-value_fits-requires t c = search (rules, the_lemmas, case_lemmas)

pub one_fits-value_fits-requires : goal.one_fits-value_fits-requires
one_fits-value_fits-requires t c = search (rules, the_lemmas, case_lemmas)

pub sequence_fits-all_fit-requires : goal.sequence_fits-all_fit-requires
sequence_fits-all_fit-requires t c = search (rules, the_lemmas, case_lemmas)

pub value_fits-sequence_fits-requires : goal.value_fits-sequence_fits-requires
value_fits-sequence_fits-requires t c = search (rules, the_lemmas, case_lemmas)

pub value_fits-array_fits-requires : goal.value_fits-array_fits-requires
value_fits-array_fits-requires t c = search (rules, the_lemmas, case_lemmas)

pub value_fits-members_fit-requires : goal.value_fits-members_fit-requires
value_fits-members_fit-requires t c = search (rules, the_lemmas, case_lemmas)

pub value_fits-value_fits-requires : goal.value_fits-value_fits-requires
value_fits-value_fits-requires t c = search (rules, the_lemmas, case_lemmas)

pub value_fits-chosen_fits-requires : goal.value_fits-chosen_fits-requires
value_fits-chosen_fits-requires t c = search (rules, the_lemmas, case_lemmas)

pub chosen_fits-returns-in_default : goal.chosen_fits-returns-in_default
chosen_fits-returns-in_default t c = search (rules, the_lemmas, val_lemmas)

pub value_fits-returns-in-Boolean-Boolean : goal.value_fits-returns-in-Boolean-Boolean
value_fits-returns-in-Boolean-Boolean t c = search (rules, the_lemmas, val_lemmas)

pub value_fits-returns-in-Char-Char : goal.value_fits-returns-in-Char-Char
value_fits-returns-in-Char-Char t c = search (rules, the_lemmas, val_lemmas)

pub value_fits-returns-in-Octet-Octet : goal.value_fits-returns-in-Octet-Octet
value_fits-returns-in-Octet-Octet t c = search (rules, the_lemmas, val_lemmas)

pub value_fits-returns-in-Short-Short : goal.value_fits-returns-in-Short-Short
value_fits-returns-in-Short-Short t c = search (rules, the_lemmas, val_lemmas)

pub value_fits-returns-in-UShort-UShort : goal.value_fits-returns-in-UShort-UShort
value_fits-returns-in-UShort-UShort t c = search (rules, the_lemmas, val_lemmas)

pub value_fits-returns-in-Long-Long : goal.value_fits-returns-in-Long-Long
value_fits-returns-in-Long-Long t c = search (rules, the_lemmas, val_lemmas)

pub value_fits-returns-in-ULong-ULong : goal.value_fits-returns-in-ULong-ULong
value_fits-returns-in-ULong-ULong t c = search (rules, the_lemmas, val_lemmas)

pub value_fits-returns-in-LongLong-LongLong : goal.value_fits-returns-in-LongLong-LongLong
value_fits-returns-in-LongLong-LongLong t c = search (rules, the_lemmas, val_lemmas)

pub value_fits-returns-in-ULongLong-ULongLong : goal.value_fits-returns-in-ULongLong-ULongLong
value_fits-returns-in-ULongLong-ULongLong t c = search (rules, the_lemmas, val_lemmas)

pub value_fits-returns-then-len : goal.value_fits-returns-then-len
value_fits-returns-then-len t c = search (rules, the_lemmas, val_lemmas)

pub value_fits-returns-else-len : goal.value_fits-returns-else-len
value_fits-returns-else-len t c = search (rules, the_lemmas, val_lemmas)

pub value_fits-returns-in-Octets-Octets : goal.value_fits-returns-in-Octets-Octets
value_fits-returns-in-Octets-Octets t c = search (rules, the_lemmas, val_lemmas)

pub value_fits-returns-in-Enum-Enum : goal.value_fits-returns-in-Enum-Enum
value_fits-returns-in-Enum-Enum t c = search (rules, the_lemmas, val_lemmas)
