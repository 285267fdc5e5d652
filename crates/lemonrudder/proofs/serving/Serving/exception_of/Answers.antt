use Rattle.std.proofs.lemmas.Result.{err_from_is_err_and}
use Rattle.ft_orb.specs.Engines.{awaited_lent}
use Rattle.lemonrudder.specs.Outcomes.{interface_at, member_types}
use Rattle.lemonrudder.proofs.Handing.{body-is, body-long, body-short, body-unread, body-unwritable}
use Rattle.lemonrudder.proofs.Idling.{not_so}
use Rattle.lemonrudder.proofs.serving.Serving.exception_of.Goals as goal

pub returns-then-not-may_be_raised : goal.returns-then-not-may_be_raised
returns-then-not-may_be_raised c =
    let id = c.args.id.now in
    body-long id (member_types id (interface_at c.args.self.now (awaited_lent c.args.asked.now))) c.args.order c.args.octets.now (λ may. not_so c.if-not-may_be_raised.true (c.may_be_raised.ensures.1 may))

pub returns-in_err-members : goal.returns-in_err-members
returns-in_err-members c =
    let p = err_from_is_err_and c.from_residual.result c.from_residual.ensures.1 in
    let id = c.args.id.now in
    rw (p.1, p.2) (body-unread id (member_types id (interface_at c.args.self.now (awaited_lent c.args.asked.now))) c.args.order c.args.octets.now c.in_err-members.field-0.0 c.in_err-members.ensures (c.may_be_raised.ensures.0 c.if-not-may_be_raised.false))

pub returns-then-not-can_raise : goal.returns-then-not-can_raise
returns-then-not-can_raise c =
    let id = c.args.id.now in
    body-unwritable id (member_types id (interface_at c.args.self.now (awaited_lent c.args.asked.now))) c.args.order c.args.octets.now c.in_ok-members.members c.in_ok-members.ensures (λ can. not_so c.if-not-can_raise.true (c.can_raise.ensures.1 (rw c.deref.ensures.value can)))

pub returns-in_err-body : goal.returns-in_err-body
returns-in_err-body c =
    let p = err_from_is_err_and c.from_residual-in_err-body.result c.from_residual-in_err-body.ensures.1 in
    let id = c.args.id.now in
    rw (p.1, p.2) (body-short id (member_types id (interface_at c.args.self.now (awaited_lent c.args.asked.now))) c.args.order c.args.octets.now c.in_ok-members.members c.in_ok-members.ensures (c.may_be_raised.ensures.0 c.if-not-may_be_raised.false))

pub returns : goal.returns
returns c =
    let id = c.args.id.now in
    body-is id (member_types id (interface_at c.args.self.now (awaited_lent c.args.asked.now))) c.args.order c.args.octets.now c.in_ok-members.members c.in_ok-body.body c.in_ok-members.ensures (rw c.deref.ensures.value at (c.can_raise.ensures.0 c.if-not-can_raise.false)) (rw c.deref-2.ensures.value at c.in_ok-body.ensures)
