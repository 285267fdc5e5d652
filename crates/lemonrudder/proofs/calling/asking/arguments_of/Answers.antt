use Rattle.std.proofs.Common.{refl, subst}
use Rattle.std.proofs.lemmas.Result.{err_from_is_err_and}
use Rattle.cdr_core.specs.View.{forms_of, values_of}
use Rattle.cdr_core.specs.Writing.{AreWritable}
use Rattle.lemonrudder.specs.Invokes.{IsTyped, question_of}
use Rattle.lemonrudder.specs.Naming.{order_named}
use Rattle.lemonrudder.proofs.Clients.{named_ok}
use Rattle.lemonrudder.proofs.Invoking.{arguments_are, not_writable, unread_why}
use Rattle.lemonrudder.proofs.calling.asking.arguments_of.Goals as goal

pub returns-in_err-arguments-clause-why : goal.returns-in_err-arguments-clause-why
returns-in_err-arguments-clause-why c =
    let q = question_of c.args.question.now in
    let p = err_from_is_err_and c.from_residual-in_err-arguments.result c.from_residual-in_err-arguments.ensures.1 in
    let read : IsTyped q (forms_of c.in_ok-types.types.items) c.in_ok-order.order = (c.in_ok-types.ensures, named_ok (order_named q.order) c.in_ok-order.order c.in_ok-order.ensures) in
    let why = rw c.deref.ensures.value at c.in_err-arguments.ensures.why in
    rw (p.1, p.2) (unread_why q (forms_of c.in_ok-types.types.items) c.in_ok-order.order _ read (why c.in_ok-types.ensures.1))

pub returns-then-not-are_writable-clause-why : goal.returns-then-not-are_writable-clause-why
returns-then-not-are_writable-clause-why c =
    let q = question_of c.args.question.now in
    let xs = c.deref-2.result.now in
    let are = arguments_are q c.in_ok-types.types.items _ c.in_ok-order.order xs _ c.in_ok-types.ensures c.in_ok-order.ensures c.deref.ensures.value c.deref-2.ensures.value c.in_ok-arguments.ensures.spelled in
    (values_of xs, (are, c.has_no_nul.ensures.0 c.if-not-has_no_nul.false), not_writable _ xs c.are_writable.ensures c.if-not-are_writable.true)

pub returns-clause-asked : goal.returns-clause-asked
returns-clause-asked c =
    let q = question_of c.args.question.now in
    let are = arguments_are q c.in_ok-types.types.items _ c.in_ok-order.order c.in_ok-arguments.arguments.items _ c.in_ok-types.ensures c.in_ok-order.ensures c.deref.ensures.value refl c.in_ok-arguments.ensures.spelled in
    (are, c.has_no_nul.ensures.0 c.if-not-has_no_nul.false)

pub returns-clause-writable : goal.returns-clause-writable
returns-clause-writable c = subst (λ vs. AreWritable (values_of vs)) c.deref-2.ensures.value (c.are_writable.ensures.0 c.if-not-are_writable.false)
