use Rattle.std.proofs.Common.{◌∙◌, ap, Err, refl, sym}
use Rattle.std.proofs.lemmas.Result.{err_from_is_err_and}
use Rattle.ft_orb.specs.Engines.{awaited_lent, waits_in}
use Rattle.ft_orb.specs.Parking.{parked_in}
use Rattle.lemonrudder.specs.Beforehand.{ByNamed, Says}
use Rattle.lemonrudder.specs.Tickets.{named_by}
use Rattle.lemonrudder.proofs.Handing.{by_found, named, not_called, says-it, unnamed}
use Rattle.lemonrudder.proofs.serving.Serving.reply_contexts.Goals as goal

pub returns-in_err-order : goal.returns-in_err-order
returns-in_err-order c =
    let p = err_from_is_err_and c.from_residual.result c.from_residual.ensures.1 in
    let s = c.args.self.now in
    let r = c.from_residual.result in
    unnamed _ c.in_err-order.field-0.0 s r (λ o. ByNamed c.args.ticket s s r (λ f w. Says c.args.ticket o c.args.octets.now s s r)) (sym c.order_of.ensures ∙ c.in_err-order.was) (p.1 ∙ ap Err p.2)

pub returns-in_err-_called : goal.returns-in_err-_called
returns-in_err-_called c =
    let p = err_from_is_err_and c.from_residual-in_err-_called.result c.from_residual-in_err-_called.ensures.1 in
    let s = c.args.self.now in
    let r = c.from_residual-in_err-_called.result in
    named _ c.in_ok-order.order s s r (λ o. ByNamed c.args.ticket s s r (λ f w. Says c.args.ticket o c.args.octets.now s s r)) (sym c.order_of.ensures ∙ c.in_ok-order.was)
    (not_called (named_by c.args.ticket (waits_in s.engine) (parked_in s.engine)) c.in_err-_called.field-0.0 s r (λ f w. Says c.args.ticket c.in_ok-order.order c.args.octets.now s s r) c.in_err-_called.ensures.named (p.1 ∙ ap Err p.2))

pub returns-in_err-said : goal.returns-in_err-said
returns-in_err-said c =
    let p = err_from_is_err_and c.from_residual-in_err-said.result c.from_residual-in_err-said.ensures.1 in
    let s = c.args.self.now in
    let o = c.in_ok-order.order in
    let e = c.in_err-said.field-0.0 in
    rw (p.1, p.2) (named _ o s s (Err e) (λ o. ByNamed c.args.ticket s s (Err e) (λ f w. Says c.args.ticket o c.args.octets.now s s (Err e))) (sym c.order_of.ensures ∙ c.in_ok-order.was)
    (by_found (named_by c.args.ticket (waits_in s.engine) (parked_in s.engine)) c.in_ok-_called._called.found (awaited_lent c.in_ok-_called._called.asked) s s (Err e) (λ f w. Says c.args.ticket o c.args.octets.now s s (Err e)) c.in_ok-_called.ensures.named
    (refl, c.in_err-said.ensures)))

pub returns : goal.returns
returns c =
    says-it c.args.ticket c.args.order c.args.octets.now c.args.self.now _ c.in_ok-order.order c.in_ok-_called._called.found (awaited_lent c.in_ok-_called._called.asked) (sym c.order_of.ensures ∙ c.in_ok-order.was) c.in_ok-_called.ensures.named
    (refl, c.in_ok-said.ensures.0, refl, ((λ q. (refl, refl)), refl), (λ q. (refl, refl)), refl, c.in_ok-said.ensures.1)
