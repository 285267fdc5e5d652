use Rattle.std.proofs.Common.{◌∙◌, ap, Ok, Err, refl, sym}
use Rattle.std.proofs.lemmas.Result.{err_from_is_err_and}
use Rattle.ft_log.specs.declared.outcome.RawStatus.TheVariants.{UserException}
use Rattle.ft_orb.specs.Engines.{awaited_lent, waits_in}
use Rattle.ft_orb.specs.Parking.{parked_in}
use Rattle.lemonrudder.specs.declared.refusal.Refusal.TheVariants.{Outcome}
use Rattle.lemonrudder.specs.Beforehand.{ByNamed, TellsBody}
use Rattle.lemonrudder.specs.Outcomes.{interface_at, member_types}
use Rattle.lemonrudder.specs.Tickets.{named_by}
use Rattle.lemonrudder.proofs.Handing.{by_found, named, not_called, tells-none, tells-it, unnamed}
use Rattle.lemonrudder.proofs.Idling.{not_so}
use Rattle.lemonrudder.proofs.serving.Serving.exception.Goals as goal

pub returns-in_err-order-clause-told : goal.returns-in_err-order-clause-told
returns-in_err-order-clause-told c =
    let p = err_from_is_err_and c.from_residual.result c.from_residual.ensures.1 in
    let s = c.args.self.now in
    let room = c.args.room.now in
    let r = c.from_residual.result in
    unnamed _ c.in_err-order.field-0.0 s r (λ o. ByNamed c.args.ticket s s r (TellsBody c.args.id.now o c.args.octets.now room room s s r)) (sym c.order_of.ensures ∙ c.in_err-order.was) (p.1 ∙ ap Err p.2)

pub returns-in_err-called-clause-told : goal.returns-in_err-called-clause-told
returns-in_err-called-clause-told c =
    let p = err_from_is_err_and c.from_residual-in_err-called.result c.from_residual-in_err-called.ensures.1 in
    let s = c.args.self.now in
    let room = c.args.room.now in
    let r = c.from_residual-in_err-called.result in
    named _ c.in_ok-order.order s s r (λ o. ByNamed c.args.ticket s s r (TellsBody c.args.id.now o c.args.octets.now room room s s r)) (sym c.order_of.ensures ∙ c.in_ok-order.was)
    (not_called (named_by c.args.ticket (waits_in s.engine) (parked_in s.engine)) c.in_err-called.field-0.0 s r (TellsBody c.args.id.now c.in_ok-order.order c.args.octets.now room room s s r) c.in_err-called.ensures.named (p.1 ∙ ap Err p.2))

pub returns-in_err-body-clause-told : goal.returns-in_err-body-clause-told
returns-in_err-body-clause-told c =
    let p = err_from_is_err_and c.from_residual-in_err-body.result c.from_residual-in_err-body.ensures.1 in
    let s = c.args.self.now in
    let room = c.args.room.now in
    let w = awaited_lent c.in_ok-called.called.asked in
    let e = c.in_err-body.field-0.0 in
    let o = c.in_ok-order.order in
    rw (p.1, p.2) (named _ o s s (Err e) (λ o. ByNamed c.args.ticket s s (Err e) (TellsBody c.args.id.now o c.args.octets.now room room s s (Err e))) (sym c.order_of.ensures ∙ c.in_ok-order.was)
    (by_found (named_by c.args.ticket (waits_in s.engine) (parked_in s.engine)) c.in_ok-called.called.found w s s (Err e) (TellsBody c.args.id.now o c.args.octets.now room room s s (Err e)) c.in_ok-called.ensures.named
    (refl, tells-none c.in_ok-called.called.found c.args.id.now (member_types c.args.id.now (interface_at s w)) o c.args.octets.now room s e c.in_err-body.ensures)))

pub returns-then-not-can_be_body-clause-told : goal.returns-then-not-can_be_body-clause-told
returns-then-not-can_be_body-clause-told c =
    let s = c.args.self.now in
    let room = c.args.room.now in
    let w = awaited_lent c.in_ok-called.called.asked in
    let o = c.in_ok-order.order in
    named _ o s s (Err Outcome) (λ o. ByNamed c.args.ticket s s (Err Outcome) (TellsBody c.args.id.now o c.args.octets.now room room s s (Err Outcome))) (sym c.order_of.ensures ∙ c.in_ok-order.was)
    (by_found (named_by c.args.ticket (waits_in s.engine) (parked_in s.engine)) c.in_ok-called.called.found w s s (Err Outcome) (TellsBody c.args.id.now o c.args.octets.now room room s s (Err Outcome)) c.in_ok-called.ensures.named (
      refl,
      tells-it c.in_ok-called.called.found c.args.id.now (member_types c.args.id.now (interface_at s w)) o c.args.octets.now room room s (Err Outcome) c.in_ok-body.body c.in_ok-body.ensures
          ((λ can. absurd (not_so c.if-not-can_be_body.true ((c.can_be_body.ensures UserException o).1 (rw c.deref.ensures.value can)))), λ cannot. (refl, refl)),
    ))

pub returns-clause-told : goal.returns-clause-told
returns-clause-told c =
    let s = c.args.self.now in
    let room = c.args.room.now in
    let new = c.copied.new.room in
    let w = awaited_lent c.in_ok-called.called.asked in
    let o = c.in_ok-order.order in
    let r = Ok c.copied.result in
    named _ o s s r (λ o. ByNamed c.args.ticket s s r (TellsBody c.args.id.now o c.args.octets.now room new s s r)) (sym c.order_of.ensures ∙ c.in_ok-order.was)
    (by_found (named_by c.args.ticket (waits_in s.engine) (parked_in s.engine)) c.in_ok-called.called.found w s s r (TellsBody c.args.id.now o c.args.octets.now room new s s r) c.in_ok-called.ensures.named (
      refl,
      tells-it c.in_ok-called.called.found c.args.id.now (member_types c.args.id.now (interface_at s w)) o c.args.octets.now room new s r c.in_ok-body.body c.in_ok-body.ensures
          ((λ can. (ap Ok (rw c.deref-2.ensures.value at c.copied.ensures.count), rw c.deref-2.ensures.value at c.copied.ensures.room)), λ cannot. absurd (cannot (rw c.deref.ensures.value at ((c.can_be_body.ensures UserException o).0 c.if-not-can_be_body.false)))),
    ))
