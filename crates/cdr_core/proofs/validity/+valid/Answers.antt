use Rattle.std.proofs.Common.{rules, ◌+◌, ap, ◌∙◌}
use Rattle.std.proofs.lemmas.List.{take_rest}
use Rattle.cdr_core.proofs.Tests.{cases_default, cases_failed, cases_none, cases_passed, each_failed, each_held, each_passed, has_cases, same}
use Rattle.cdr_core.proofs.Views.{form_of-Seq}
use Rattle.cdr_core.specs.Private.{HasCases}
use Rattle.cdr_core.specs.Fitting.{AreValid, IsValid}
use Rattle.cdr_core.specs.View.{form_of, forms_of}
use Rattle.cdr_core.specs.declared.types.Case.{the_lemmas as case_lemmas}
use Rattle.cdr_core.specs.declared.types.Ty.{Ty}
use Rattle.cdr_core.specs.declared.types.Ty.{the_lemmas}
use Rattle.cdr_core.proofs.validity.+valid.Goals as goal

pub are_valid-loop-ty-init : goal.are_valid-loop-ty-init
are_valid-loop-ty-init t c = same (AreValid (forms_of c.args.types.now))

pub are_valid-loop-ty-preserved : goal.are_valid-loop-ty-preserved
are_valid-loop-ty-preserved t c =
    each_passed Ty (AreValid (forms_of c.args.types.now)) (λ x. IsValid (form_of x)) (λ xs. AreValid (forms_of xs)) c.args.types.now c.loop-ty.ty-index c.ty-item.result c.valid.result
    (λ xs. same (IsValid (form_of c.ty-item.result) × AreValid (forms_of xs))) c.loop-ty-test.true c.ty-item.is c.valid.ensures c.if-not-valid.false c.loop-ty.invariant

pub are_valid-returns-then-not-valid : goal.are_valid-returns-then-not-valid
are_valid-returns-then-not-valid t c =
    each_failed Ty (AreValid (forms_of c.args.types.now)) (λ x. IsValid (form_of x)) (λ xs. AreValid (forms_of xs)) c.args.types.now c.loop-ty.ty-index c.ty-item.result c.valid.result
    (λ xs. same (IsValid (form_of c.ty-item.result) × AreValid (forms_of xs))) c.loop-ty-test.true c.ty-item.is c.valid.ensures c.if-not-valid.true c.loop-ty.invariant

pub are_valid-returns : goal.are_valid-returns
are_valid-returns t c =
    each_held Ty (AreValid (forms_of c.args.types.now)) (λ xs. AreValid (forms_of xs)) c.args.types.now c.loop-ty.ty-index tt c.loop-ty-test.false c.loop-ty.invariant

pub are_cases-loop-i-init : goal.are_cases-loop-i-init
are_cases-loop-i-init t c =
    let u = c.in-Union in
    has_cases c.args.union.now u.discriminator u.cases u.default u.is

pub are_cases-returns-in-None : goal.are_cases-returns-in-None
are_cases-returns-in-None t c =
    let u = c.in-Union in
    let le = rw c.deref-case-items.ensures.value at c.loop-i-test.false in
    cases_none (HasCases (form_of c.args.union.now)) (form_of u.discriminator.value) u.cases.items u.default c.loop-i.i le c.in-None.is c.loop-i.invariant

pub are_cases-returns-in-Some : goal.are_cases-returns-in-Some
are_cases-returns-in-Some t c =
    let u = c.in-Union in
    let le = rw c.deref-case-items.ensures.value at c.loop-i-test.false in
    cases_default (HasCases (form_of c.args.union.now)) (form_of u.discriminator.value) u.cases.items u.default c.loop-i.i c.in-Some.ty c.deref-in-Some.result.now c.valid.result le c.in-Some.is c.deref-in-Some.ensures c.valid.ensures c.loop-i.invariant

pub valid-returns-in-Seq : goal.valid-returns-in-Seq
valid-returns-in-Seq t c =
    let a = c.in-Seq in
    rw (ap form_of a.is ∙ form_of-Seq a.field-0 a.member) (rw c.deref.ensures at c.valid.ensures)

pub are_cases-is_case-requires : goal.are_cases-is_case-requires
are_cases-is_case-requires t c = search (rules, the_lemmas, case_lemmas)

pub are_cases-valid-requires : goal.are_cases-valid-requires
are_cases-valid-requires t c = search (rules, the_lemmas, case_lemmas)

pub are_valid-valid-requires : goal.are_valid-valid-requires
are_valid-valid-requires t c = search (rules, the_lemmas, case_lemmas)

pub is_case-valid-requires : goal.is_case-valid-requires
is_case-valid-requires t c = search (rules, the_lemmas, case_lemmas)

pub valid-valid-requires : goal.valid-valid-requires
valid-valid-requires t c = search (rules, the_lemmas, case_lemmas)

pub valid-valid-requires-then-count-gt0 : goal.valid-valid-requires-then-count-gt0
valid-valid-requires-then-count-gt0 t c = search (rules, the_lemmas, case_lemmas)

pub valid-are_valid-requires : goal.valid-are_valid-requires
valid-are_valid-requires t c = search (rules, the_lemmas, case_lemmas)

pub valid-valid-requires-then-is_discriminator : goal.valid-valid-requires-then-is_discriminator
valid-valid-requires-then-is_discriminator t c = search (rules, the_lemmas, case_lemmas)

pub valid-are_cases-requires : goal.valid-are_cases-requires
valid-are_cases-requires t c = search (rules, the_lemmas, case_lemmas)

pub are_cases-returns-in_default : goal.are_cases-returns-in_default
are_cases-returns-in_default t c = search (rules, the_lemmas)

pub valid-returns-then-count-gt0 : goal.valid-returns-then-count-gt0
valid-returns-then-count-gt0 t c = search (rules, the_lemmas)

pub valid-returns-else-count-gt0 : goal.valid-returns-else-count-gt0
valid-returns-else-count-gt0 t c = search (rules, the_lemmas)

pub valid-returns-in-Enum : goal.valid-returns-in-Enum
valid-returns-in-Enum t c = search (rules, the_lemmas)

pub valid-returns-then-has_members : goal.valid-returns-then-has_members
valid-returns-then-has_members t c = search (rules, the_lemmas)

pub valid-returns-else-has_members : goal.valid-returns-else-has_members
valid-returns-else-has_members t c = search (rules, the_lemmas)

pub valid-returns-then-valid : goal.valid-returns-then-valid
valid-returns-then-valid t c = search (rules, the_lemmas)

pub valid-returns-else-valid : goal.valid-returns-else-valid
valid-returns-else-valid t c = search (rules, the_lemmas)

pub valid-returns-in_default : goal.valid-returns-in_default
valid-returns-in_default t c = search (rules, the_lemmas)

pub are_cases-loop-i-preserved : goal.are_cases-loop-i-preserved
are_cases-loop-i-preserved t c =
    let u = c.in-Union in
    let items = c.deref-case-items.ensures.value in
    let lt = rw items at c.loop-i-test.true in
    let is = rw items at c.case-item.is in
    let test = rw (c.deref-in-loop-i.ensures.value, take_rest u.cases.items (c.loop-i.i + 1)) at (c.is_case.ensures u.default) in
    cases_passed (HasCases (form_of c.args.union.now)) u.discriminator.value c.deref.result.now u.cases.items u.default c.loop-i.i c.case-item.result c.is_case.result lt is c.deref.ensures test c.if-not-is_case.false c.loop-i.invariant

pub are_cases-returns-then-not-is_case : goal.are_cases-returns-then-not-is_case
are_cases-returns-then-not-is_case t c =
    let u = c.in-Union in
    let items = c.deref-case-items.ensures.value in
    let lt = rw items at c.loop-i-test.true in
    let is = rw items at c.case-item.is in
    let test = rw (c.deref-in-loop-i.ensures.value, take_rest u.cases.items (c.loop-i.i + 1)) at (c.is_case.ensures u.default) in
    cases_failed (HasCases (form_of c.args.union.now)) u.discriminator.value c.deref.result.now u.cases.items u.default c.loop-i.i c.case-item.result c.is_case.result lt is c.deref.ensures test c.if-not-is_case.true c.loop-i.invariant
