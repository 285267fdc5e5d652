use Rattle.std.proofs.Common.{◌≡◌, ◌∙◌, ℤ, Err, ap, arith, rules}
use Rattle.std.proofs.lemmas.Int.{ints}
use Rattle.std.proofs.lemmas.Result.{err_from_is_err_and}
use Rattle.std.specs.Prelude.{unsigned_abs}
use mir.Syntax.{w32}
use mir.Val.{of_z, to_z}
use Rattle.lemonrudder.specs.Invokes.{question_of}
use Rattle.lemonrudder.proofs.Clients.{stands_unwritten}
use Rattle.lemonrudder.proofs.Invoking.{asked_are, client_refuses, client_takes}
use Rattle.lemonrudder.proofs.calling.Calling.call.Goals as goal

pub returns-in_err-number : goal.returns-in_err-number
returns-in_err-number c =
    let q = question_of c.args.question.now in
    let s = c.args.self.now in
    let e = c.in_err-number.ensures in
    let p = err_from_is_err_and c.from_residual-in_err-number.result c.from_residual-in_err-number.ensures.1 in
    let are = asked_are q c.deref.result.now _ c.deref.ensures.value c.in_ok-arguments.ensures.asked in
    client_refuses c.args.now c.args.expiration q s (record s { client = c.call.new.self; due = record s.due { octets = c.call.new.out } }) c.deref.result.now c.in_err-number.field-0.0 _ are e.err
    (λ x st. stands_unwritten s c.call.new.self c.call.new.out x x.client st (e.same x.client st.client) e.unwritten) (p.1 ∙ ap Err p.2)

pub returns : goal.returns
returns c =
    let q = question_of c.args.question.now in
    let o = c.in_ok-number.ensures in
    let are = asked_are q c.deref.result.now _ c.deref.ensures.value c.in_ok-arguments.ensures.asked in
    let same : to_z w32 (of_z w32 c.in_ok-number.number) ≡ c.in_ok-number.number = first_of (search rules, omega (arith, ints)) in
    let number : c.unsigned_abs.result ≡ unsigned_abs c.in_ok-number.number = c.unsigned_abs.ensures.value ∙ ap (λ (z : ℤ). unsigned_abs z) same in
    client_takes c.args.now c.args.expiration q c.args.self.now c.call.new.self c.call.new.out c.deref.result.now _ are
    (λ m st. c.from.ensures ∙ number ∙ ap (λ (z : ℤ). unsigned_abs z) (o.number m st)) o.taken o.stands o.out
