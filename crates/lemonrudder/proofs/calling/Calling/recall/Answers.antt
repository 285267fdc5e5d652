use Rattle.std.proofs.Common.{◌∙◌, Err, ap}
use Rattle.std.proofs.lemmas.Int.{to_z-of_z}
use Rattle.std.proofs.lemmas.Result.{err_from_is_err_and}
use Rattle.std.specs.Int.{w64}
use Rattle.lemonrudder.specs.Invokes.{question_of}
use Rattle.lemonrudder.proofs.Clients.{stands_unwritten}
use Rattle.lemonrudder.proofs.Invoking.{asked_are, client_leaves, client_resumes, client_unasked}
use Rattle.lemonrudder.proofs.Resuming.{numbered_as}
use Rattle.lemonrudder.proofs.calling.Calling.recall.Goals as goal

pub returns-in_err-arguments : goal.returns-in_err-arguments
returns-in_err-arguments c =
    let p = err_from_is_err_and c.from_residual-in_err-arguments.result c.from_residual-in_err-arguments.ensures.1 in
    let number = numbered_as c.args.call _ c.in_ok-number.number (to_z-of_z w64 c.args.call c.ranges.call) c.in_ok-number.ensures in
    client_unasked c.args.call c.args.now c.args.expiration (question_of c.args.question.now) c.args.self.now c.in_ok-number.number _ _ number c.in_err-arguments.ensures.why (p.1 ∙ ap Err p.2)

pub returns-in_err-recall : goal.returns-in_err-recall
returns-in_err-recall c =
    let q = question_of c.args.question.now in
    let s = c.args.self.now in
    let e = c.in_err-recall.ensures in
    let p = err_from_is_err_and c.from_residual-in_err-recall.result c.from_residual-in_err-recall.ensures.1 in
    let number = numbered_as c.args.call _ c.in_ok-number.number (to_z-of_z w64 c.args.call c.ranges.call) c.in_ok-number.ensures in
    let are = asked_are q c.deref.result.now _ c.deref.ensures.value c.in_ok-arguments.ensures.asked in
    client_leaves c.args.call c.args.now c.args.expiration q s (record s { client = c.recall.new.self; due = record s.due { octets = c.recall.new.out } }) c.in_ok-number.number c.deref.result.now c.in_err-recall.field-0.0 _ number are e.err
    (λ x st. stands_unwritten s c.recall.new.self c.recall.new.out x x.client st (e.same x.client st.client) e.unwritten) (p.1 ∙ ap Err p.2)

pub returns : goal.returns
returns c =
    let q = question_of c.args.question.now in
    let o = c.in_ok-recall.ensures in
    let number = numbered_as c.args.call _ c.in_ok-number.number (to_z-of_z w64 c.args.call c.ranges.call) c.in_ok-number.ensures in
    let are = asked_are q c.deref.result.now _ c.deref.ensures.value c.in_ok-arguments.ensures.asked in
    client_resumes c.args.call c.args.now c.args.expiration q c.args.self.now c.recall.new.self c.recall.new.out c.in_ok-number.number c.deref.result.now number are o.taken o.stands o.out
