use Rattle.std.proofs.Common.{◌∙◌, ap, Ok, Err, refl, sym}
use Rattle.std.proofs.lemmas.Result.{err_from_is_err_and}
use Rattle.ft_log.specs.declared.outcome.RawStatus.TheVariants.{NoException}
use Rattle.ft_orb.specs.Engines.{awaited_lent, waits_in}
use Rattle.ft_orb.specs.Parking.{parked_in}
use Rattle.lemonrudder.specs.declared.refusal.Refusal.TheVariants.{Outcome}
use Rattle.lemonrudder.specs.Beforehand.{ByNamed, JudgesResults}
use Rattle.lemonrudder.specs.Tickets.{named_by}
use Rattle.lemonrudder.proofs.Handing.{by_found, named, not_called, unnamed}
use Rattle.lemonrudder.proofs.Idling.{not_so}
use Rattle.lemonrudder.proofs.serving.Serving.can_answer.Goals as goal

pub returns-in_err-order : goal.returns-in_err-order
returns-in_err-order c =
    let p = err_from_is_err_and c.from_residual.result c.from_residual.ensures.1 in
    let s = c.args.self.now in
    let r = c.from_residual.result in
    unnamed _ c.in_err-order.field-0.0 s r (λ o. ByNamed c.args.ticket s s r (JudgesResults o c.args.octets.now s s r)) (sym c.order_of.ensures ∙ c.in_err-order.was) (p.1 ∙ ap Err p.2)

pub returns-in_err-called : goal.returns-in_err-called
returns-in_err-called c =
    let p = err_from_is_err_and c.from_residual-in_err-called.result c.from_residual-in_err-called.ensures.1 in
    let s = c.args.self.now in
    let r = c.from_residual-in_err-called.result in
    named _ c.in_ok-order.order s s r (λ o. ByNamed c.args.ticket s s r (JudgesResults o c.args.octets.now s s r)) (sym c.order_of.ensures ∙ c.in_ok-order.was)
    (not_called (named_by c.args.ticket (waits_in s.engine) (parked_in s.engine)) c.in_err-called.field-0.0 s r (JudgesResults c.in_ok-order.order c.args.octets.now s s r) c.in_err-called.ensures.named (p.1 ∙ ap Err p.2))

pub returns-then-not-are_results : goal.returns-then-not-are_results
returns-then-not-are_results c =
    let s = c.args.self.now in
    let o = c.in_ok-order.order in
    named _ o s s (Err Outcome) (λ o. ByNamed c.args.ticket s s (Err Outcome) (JudgesResults o c.args.octets.now s s (Err Outcome))) (sym c.order_of.ensures ∙ c.in_ok-order.was)
    (by_found (named_by c.args.ticket (waits_in s.engine) (parked_in s.engine)) c.in_ok-called.called.found (awaited_lent c.in_ok-called.called.asked) s s (Err Outcome) (JudgesResults o c.args.octets.now s s (Err Outcome)) c.in_ok-called.ensures.named
    (refl, (λ can. absurd (not_so c.if-not-are_results.true (c.are_results.ensures.1 can.0))), λ cannot. refl))

pub returns-then-not-can_be_body : goal.returns-then-not-can_be_body
returns-then-not-can_be_body c =
    let s = c.args.self.now in
    let o = c.in_ok-order.order in
    named _ o s s (Err Outcome) (λ o. ByNamed c.args.ticket s s (Err Outcome) (JudgesResults o c.args.octets.now s s (Err Outcome))) (sym c.order_of.ensures ∙ c.in_ok-order.was)
    (by_found (named_by c.args.ticket (waits_in s.engine) (parked_in s.engine)) c.in_ok-called.called.found (awaited_lent c.in_ok-called.called.asked) s s (Err Outcome) (JudgesResults o c.args.octets.now s s (Err Outcome)) c.in_ok-called.ensures.named
    (refl, (λ can. absurd (not_so c.if-not-can_be_body.true ((c.can_be_body.ensures NoException o).1 can.1))), λ cannot. refl))

pub returns : goal.returns
returns c =
    let s = c.args.self.now in
    let o = c.in_ok-order.order in
    named _ o s s (Ok 0) (λ o. ByNamed c.args.ticket s s (Ok 0) (JudgesResults o c.args.octets.now s s (Ok 0))) (sym c.order_of.ensures ∙ c.in_ok-order.was)
    (by_found (named_by c.args.ticket (waits_in s.engine) (parked_in s.engine)) c.in_ok-called.called.found (awaited_lent c.in_ok-called.called.asked) s s (Ok 0) (JudgesResults o c.args.octets.now s s (Ok 0)) c.in_ok-called.ensures.named
    (refl, (λ can. refl), λ cannot. absurd (cannot (c.are_results.ensures.0 c.if-not-are_results.false, (c.can_be_body.ensures NoException o).0 c.if-not-can_be_body.false))))
