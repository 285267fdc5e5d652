use Rattle.std.proofs.Common.{◌∙◌, ap, Err, sym}
use Rattle.std.proofs.lemmas.Result.{err_from_is_err_and}
use Rattle.ft_orb.specs.Engines.{awaited_lent, waits_in}
use Rattle.ft_orb.specs.Parking.{parked_in}
use Rattle.lemonrudder.specs.Outcomes.{Raises, interface_at, member_types}
use Rattle.lemonrudder.specs.Serves.{ByCalled}
use Rattle.lemonrudder.specs.Tickets.{called_by}
use Rattle.lemonrudder.proofs.Handing.{by_found, named, not_called, raises-it, raises-none, unnamed}
use Rattle.lemonrudder.proofs.serving.Serving.raise.Goals as goal

pub returns-in_err-order : goal.returns-in_err-order
returns-in_err-order c =
    let p = err_from_is_err_and c.from_residual.result c.from_residual.ensures.1 in
    let s = c.args.self.now in
    let id = c.args.id.now in
    let r = c.from_residual.result in
    unnamed _ c.in_err-order.field-0.0 s r (λ o. ByCalled c.args.ticket s s r (λ f w. Raises c.args.ticket f id (member_types id (interface_at s w)) o c.args.octets.now s s r)) (sym c.order_of.ensures ∙ c.in_err-order.was) (p.1 ∙ ap Err p.2)

pub returns-in_err-called : goal.returns-in_err-called
returns-in_err-called c =
    let p = err_from_is_err_and c.from_residual-in_err-called.result c.from_residual-in_err-called.ensures.1 in
    let s = c.args.self.now in
    let id = c.args.id.now in
    let r = c.from_residual-in_err-called.result in
    named _ c.in_ok-order.order s s r (λ o. ByCalled c.args.ticket s s r (λ f w. Raises c.args.ticket f id (member_types id (interface_at s w)) o c.args.octets.now s s r)) (sym c.order_of.ensures ∙ c.in_ok-order.was)
    (not_called (called_by c.args.ticket (waits_in s.engine) (parked_in s.engine)) c.in_err-called.field-0.0 s r (λ f w. Raises c.args.ticket f id (member_types id (interface_at s w)) c.in_ok-order.order c.args.octets.now s s r) c.in_err-called.ensures.called (p.1 ∙ ap Err p.2))

pub returns-in_err-body : goal.returns-in_err-body
returns-in_err-body c =
    let p = err_from_is_err_and c.from_residual-in_err-body.result c.from_residual-in_err-body.ensures.1 in
    let s = c.args.self.now in
    let id = c.args.id.now in
    let w = awaited_lent c.in_ok-called.called.asked in
    let e = c.in_err-body.field-0.0 in
    let o = c.in_ok-order.order in
    rw (p.1, p.2) (named _ o s s (Err e) (λ o. ByCalled c.args.ticket s s (Err e) (λ f w. Raises c.args.ticket f id (member_types id (interface_at s w)) o c.args.octets.now s s (Err e))) (sym c.order_of.ensures ∙ c.in_ok-order.was)
    (by_found (called_by c.args.ticket (waits_in s.engine) (parked_in s.engine)) c.in_ok-called.called.found w s s (Err e) (λ f w. Raises c.args.ticket f id (member_types id (interface_at s w)) o c.args.octets.now s s (Err e)) c.in_ok-called.ensures.called
    (raises-none c.args.ticket c.in_ok-called.called.found id (member_types id (interface_at s w)) o c.args.octets.now s e c.in_err-body.ensures)))

pub returns : goal.returns
returns c =
    let s = c.args.self.now in
    let id = c.args.id.now in
    let t = c.hand_in.new.self in
    let r = c.hand_in.result in
    let w = awaited_lent c.in_ok-called.called.asked in
    let o = c.in_ok-order.order in
    named _ o s t r (λ o. ByCalled c.args.ticket s t r (λ f w. Raises c.args.ticket f id (member_types id (interface_at s w)) o c.args.octets.now s t r)) (sym c.order_of.ensures ∙ c.in_ok-order.was)
    (by_found (called_by c.args.ticket (waits_in s.engine) (parked_in s.engine)) c.in_ok-called.called.found w s t r (λ f w. Raises c.args.ticket f id (member_types id (interface_at s w)) o c.args.octets.now s t r) c.in_ok-called.ensures.called
    (raises-it c.args.ticket c.in_ok-called.called.found id (member_types id (interface_at s w)) o c.args.octets.now s t r c.in_ok-body.body c.in_ok-body.ensures c.hand_in.ensures))
