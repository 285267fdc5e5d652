use Rattle.std.proofs.Common.{◌∙◌, ap, Err, sym}
use Rattle.std.proofs.lemmas.Result.{err_from_is_err_and}
use Rattle.ft_log.specs.Performed.{system}
use Rattle.ft_orb.specs.Engines.{awaited_lent, waits_in}
use Rattle.ft_orb.specs.Parking.{parked_in}
use Rattle.lemonrudder.specs.Naming.{completion_named}
use Rattle.lemonrudder.specs.Outcomes.{ByName, HandsIn}
use Rattle.lemonrudder.specs.Serves.{ByCalled}
use Rattle.lemonrudder.specs.Tickets.{called_by}
use Rattle.lemonrudder.proofs.Handing.{by_found, named, not_called, unnamed}
use Rattle.lemonrudder.proofs.serving.Serving.system.Goals as goal

pub returns-in_err-name : goal.returns-in_err-name
returns-in_err-name c =
    let p = err_from_is_err_and c.from_residual.result c.from_residual.ensures.1 in
    let s = c.args.self.now in
    let r = c.from_residual.result in
    unnamed _ c.in_err-name.field-0.0 s r (λ n. ByName (completion_named c.args.completed) s s r (λ x. ByCalled c.args.ticket s s r (λ f w. HandsIn c.args.ticket f 0 (system n c.args.minor x) s s r))) (sym c.system_name_of.ensures ∙ c.in_err-name.was) (p.1 ∙ ap Err p.2)

pub returns-in_err-completed : goal.returns-in_err-completed
returns-in_err-completed c =
    let p = err_from_is_err_and c.from_residual-in_err-completed.result c.from_residual-in_err-completed.ensures.1 in
    let s = c.args.self.now in
    let r = c.from_residual-in_err-completed.result in
    named _ c.in_ok-name.name s s r (λ n. ByName (completion_named c.args.completed) s s r (λ x. ByCalled c.args.ticket s s r (λ f w. HandsIn c.args.ticket f 0 (system n c.args.minor x) s s r))) (sym c.system_name_of.ensures ∙ c.in_ok-name.was)
    (unnamed _ c.in_err-completed.field-0.0 s r (λ x. ByCalled c.args.ticket s s r (λ f w. HandsIn c.args.ticket f 0 (system c.in_ok-name.name c.args.minor x) s s r)) (sym c.completion_of.ensures ∙ c.in_err-completed.was) (p.1 ∙ ap Err p.2))

pub returns-in_err-called : goal.returns-in_err-called
returns-in_err-called c =
    let p = err_from_is_err_and c.from_residual-in_err-called.result c.from_residual-in_err-called.ensures.1 in
    let s = c.args.self.now in
    let r = c.from_residual-in_err-called.result in
    named _ c.in_ok-name.name s s r (λ n. ByName (completion_named c.args.completed) s s r (λ x. ByCalled c.args.ticket s s r (λ f w. HandsIn c.args.ticket f 0 (system n c.args.minor x) s s r))) (sym c.system_name_of.ensures ∙ c.in_ok-name.was)
    (named _ c.in_ok-completed.completed s s r (λ x. ByCalled c.args.ticket s s r (λ f w. HandsIn c.args.ticket f 0 (system c.in_ok-name.name c.args.minor x) s s r)) (sym c.completion_of.ensures ∙ c.in_ok-completed.was)
    (not_called (called_by c.args.ticket (waits_in s.engine) (parked_in s.engine)) c.in_err-called.field-0.0 s r (λ f w. HandsIn c.args.ticket f 0 (system c.in_ok-name.name c.args.minor c.in_ok-completed.completed) s s r) c.in_err-called.ensures.called (p.1 ∙ ap Err p.2)))

pub returns : goal.returns
returns c =
    let s = c.args.self.now in
    let t = c.hand_in.new.self in
    let r = c.hand_in.result in
    let w = awaited_lent c.in_ok-called.called.asked in
    named _ c.in_ok-name.name s t r (λ n. ByName (completion_named c.args.completed) s t r (λ x. ByCalled c.args.ticket s t r (λ f w. HandsIn c.args.ticket f 0 (system n c.args.minor x) s t r))) (sym c.system_name_of.ensures ∙ c.in_ok-name.was)
    (named _ c.in_ok-completed.completed s t r (λ x. ByCalled c.args.ticket s t r (λ f w. HandsIn c.args.ticket f 0 (system c.in_ok-name.name c.args.minor x) s t r)) (sym c.completion_of.ensures ∙ c.in_ok-completed.was)
    (by_found (called_by c.args.ticket (waits_in s.engine) (parked_in s.engine)) c.in_ok-called.called.found w s t r (λ f w. HandsIn c.args.ticket f 0 (system c.in_ok-name.name c.args.minor c.in_ok-completed.completed) s t r) c.in_ok-called.ensures.called c.hand_in.ensures))
