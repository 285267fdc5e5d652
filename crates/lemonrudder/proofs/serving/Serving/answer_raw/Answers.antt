use Rattle.std.proofs.Common.{◌∙◌, ℕ, List, ap, Err, inl, inr, refl, subst, sym}
use Rattle.std.proofs.lemmas.Result.{err_from_is_err_and}
use Rattle.ft_log.specs.Performed.{raw}
use Rattle.ft_orb.specs.Engines.{awaited_lent, waits_in}
use Rattle.ft_orb.specs.Parking.{parked_in}
use Rattle.lemonrudder.specs.Naming.{order_named}
use Rattle.lemonrudder.specs.declared.refusal.Refusal.TheVariants.{Outcome}
use Rattle.lemonrudder.specs.Outcomes.{ByName, CanBe, HandsInBody}
use Rattle.lemonrudder.specs.Serves.{ByCalled}
use Rattle.lemonrudder.specs.Tickets.{called_by}
use Rattle.lemonrudder.proofs.Handing.{by_found, named, not_called, unnamed}
use Rattle.lemonrudder.proofs.Idling.{not_so}
use Rattle.lemonrudder.proofs.serving.Serving.answer_raw.Goals as goal

pub returns-in_err-status : goal.returns-in_err-status
returns-in_err-status c =
    let p = err_from_is_err_and c.from_residual.result c.from_residual.ensures.1 in
    let s = c.args.self.now in
    let r = c.from_residual.result in
    unnamed _ c.in_err-status.field-0.0 s r (λ n. ByName (order_named c.args.order) s s r (λ o. ByCalled c.args.ticket s s r (λ f w. HandsInBody c.args.ticket f n o c.args.body.now s s r))) (sym c.raw_status_of.ensures ∙ c.in_err-status.was) (p.1 ∙ ap Err p.2)

pub returns-in_err-order : goal.returns-in_err-order
returns-in_err-order c =
    let p = err_from_is_err_and c.from_residual-in_err-order.result c.from_residual-in_err-order.ensures.1 in
    let s = c.args.self.now in
    let r = c.from_residual-in_err-order.result in
    named _ c.in_ok-status.status s s r (λ n. ByName (order_named c.args.order) s s r (λ o. ByCalled c.args.ticket s s r (λ f w. HandsInBody c.args.ticket f n o c.args.body.now s s r))) (sym c.raw_status_of.ensures ∙ c.in_ok-status.was)
    (unnamed _ c.in_err-order.field-0.0 s r (λ o. ByCalled c.args.ticket s s r (λ f w. HandsInBody c.args.ticket f c.in_ok-status.status o c.args.body.now s s r)) (sym c.order_of.ensures ∙ c.in_err-order.was) (p.1 ∙ ap Err p.2))

pub returns-in_err-called : goal.returns-in_err-called
returns-in_err-called c =
    let p = err_from_is_err_and c.from_residual-in_err-called.result c.from_residual-in_err-called.ensures.1 in
    let s = c.args.self.now in
    let r = c.from_residual-in_err-called.result in
    named _ c.in_ok-status.status s s r (λ n. ByName (order_named c.args.order) s s r (λ o. ByCalled c.args.ticket s s r (λ f w. HandsInBody c.args.ticket f n o c.args.body.now s s r))) (sym c.raw_status_of.ensures ∙ c.in_ok-status.was)
    (named _ c.in_ok-order.order s s r (λ o. ByCalled c.args.ticket s s r (λ f w. HandsInBody c.args.ticket f c.in_ok-status.status o c.args.body.now s s r)) (sym c.order_of.ensures ∙ c.in_ok-order.was)
    (not_called (called_by c.args.ticket (waits_in s.engine) (parked_in s.engine)) c.in_err-called.field-0.0 s r (λ f w. HandsInBody c.args.ticket f c.in_ok-status.status c.in_ok-order.order c.args.body.now s s r) c.in_err-called.ensures.called (p.1 ∙ ap Err p.2)))

pub returns-then-not-can_be_body : goal.returns-then-not-can_be_body
returns-then-not-can_be_body c =
    let s = c.args.self.now in
    let r = Err Outcome in
    named _ c.in_ok-status.status s s r (λ n. ByName (order_named c.args.order) s s r (λ o. ByCalled c.args.ticket s s r (λ f w. HandsInBody c.args.ticket f n o c.args.body.now s s r))) (sym c.raw_status_of.ensures ∙ c.in_ok-status.was)
    (named _ c.in_ok-order.order s s r (λ o. ByCalled c.args.ticket s s r (λ f w. HandsInBody c.args.ticket f c.in_ok-status.status o c.args.body.now s s r)) (sym c.order_of.ensures ∙ c.in_ok-order.was)
    (by_found (called_by c.args.ticket (waits_in s.engine) (parked_in s.engine)) c.in_ok-called.called.found (awaited_lent c.in_ok-called.called.asked) s s r (λ f w. HandsInBody c.args.ticket f c.in_ok-status.status c.in_ok-order.order c.args.body.now s s r) c.in_ok-called.ensures.called
    ((λ cannot. (refl, refl)), λ can. absurd (not_so c.if-not-can_be_body.true ((c.can_be_body.ensures c.in_ok-status.status c.in_ok-order.order).1 can)))))

pub returns-in_err-body : goal.returns-in_err-body
returns-in_err-body c =
    let p = err_from_is_err_and c.from_residual-in_err-body.result c.from_residual-in_err-body.ensures.1 in
    let s = c.args.self.now in
    let r = c.from_residual-in_err-body.result in
    named _ c.in_ok-status.status s s r (λ n. ByName (order_named c.args.order) s s r (λ o. ByCalled c.args.ticket s s r (λ f w. HandsInBody c.args.ticket f n o c.args.body.now s s r))) (sym c.raw_status_of.ensures ∙ c.in_ok-status.was)
    (named _ c.in_ok-order.order s s r (λ o. ByCalled c.args.ticket s s r (λ f w. HandsInBody c.args.ticket f c.in_ok-status.status o c.args.body.now s s r)) (sym c.order_of.ensures ∙ c.in_ok-order.was)
    (by_found (called_by c.args.ticket (waits_in s.engine) (parked_in s.engine)) c.in_ok-called.called.found (awaited_lent c.in_ok-called.called.asked) s s r (λ f w. HandsInBody c.args.ticket f c.in_ok-status.status c.in_ok-order.order c.args.body.now s s r) c.in_ok-called.ensures.called ((λ cannot. absurd (cannot ((c.can_be_body.ensures c.in_ok-status.status c.in_ok-order.order).0 c.if-not-can_be_body.false))), λ can. inl (c.in_err-body.ensures.1, (p.1 ∙ ap Err (p.2 ∙ c.in_err-body.ensures.0), refl)))))

pub give-requires : goal.give-requires
give-requires c =
    let n = c.in_ok-status.status in
    let o = c.in_ok-order.order in
    let f = c.in_ok-called.called.found in record {
      found = c.in_ok-called.ensures.found;
      can = subst (λ (l : List ℕ). CanBe f (raw n o l) c.args.self.now) (sym c.in_ok-body.ensures) ((c.can_be_body.ensures n o).0 c.if-not-can_be_body.false);
    }

pub returns : goal.returns
returns c =
    let s = c.args.self.now in
    let t = c.give.new.self in
    let r = c.give.result in
    named _ c.in_ok-status.status s t r (λ n. ByName (order_named c.args.order) s t r (λ o. ByCalled c.args.ticket s t r (λ f w. HandsInBody c.args.ticket f n o c.args.body.now s t r))) (sym c.raw_status_of.ensures ∙ c.in_ok-status.was)
    (named _ c.in_ok-order.order s t r (λ o. ByCalled c.args.ticket s t r (λ f w. HandsInBody c.args.ticket f c.in_ok-status.status o c.args.body.now s t r)) (sym c.order_of.ensures ∙ c.in_ok-order.was)
    (by_found (called_by c.args.ticket (waits_in s.engine) (parked_in s.engine)) c.in_ok-called.called.found (awaited_lent c.in_ok-called.called.asked) s t r (λ f w. HandsInBody c.args.ticket f c.in_ok-status.status c.in_ok-order.order c.args.body.now s t r) c.in_ok-called.ensures.called (let h = rw c.in_ok-body.ensures at c.give.ensures in ((λ cannot. absurd (cannot ((c.can_be_body.ensures c.in_ok-status.status c.in_ok-order.order).0 c.if-not-can_be_body.false))), λ can. inr h))))
