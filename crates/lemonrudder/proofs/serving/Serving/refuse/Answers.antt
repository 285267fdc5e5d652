use Rattle.std.proofs.Common.{◌∙◌, ap, Err, subst, sym}
use Rattle.std.proofs.lemmas.Result.{err_from_is_err_and}
use Rattle.ft_orb.specs.Engines.{awaited_lent, waits_in}
use Rattle.ft_orb.specs.Parking.{not_now, parked_in}
use Rattle.lemonrudder.specs.declared.serving.questions.Found.{Found}
use Rattle.ft_orb.specs.declared.unkept.Unkept.TheVariants as unkept
use Rattle.lemonrudder.specs.Declining.{Tells}
use Rattle.lemonrudder.specs.Serves.{ByCalled}
use Rattle.lemonrudder.specs.Tickets.{IsFound, called_by}
use Rattle.lemonrudder.proofs.Handing.{by_found, named, not_called, unnamed}
use Rattle.lemonrudder.proofs.serving.Serving.refuse.Goals as goal

pub tell_asked-requires-clause-found : goal.tell_asked-requires-clause-found
tell_asked-requires-clause-found c = subst (λ (f : Found). IsFound f (waits_in c.args.self.now.engine)) c.in-Waits.is c.in_ok-called.ensures.found

pub tell_parked-requires : goal.tell_parked-requires
tell_parked-requires c = record { idle = subst (λ (f : Found). IsFound f (waits_in c.args.self.now.engine)) c.in-Parked.is c.in_ok-called.ensures.found }

pub returns-in_err-name : goal.returns-in_err-name
returns-in_err-name c =
    let p = err_from_is_err_and c.from_residual.result c.from_residual.ensures.1 in
    let s = c.args.self.now in
    let r = c.from_residual.result in
    unnamed _ c.in_err-name.field-0.0 s r (λ n. ByCalled c.args.ticket s s r (λ f w. Tells unkept.Refusal f (not_now n c.args.minor) s s r)) (sym c.system_name_of.ensures ∙ c.in_err-name.was) (p.1 ∙ ap Err p.2)

pub returns-in_err-called : goal.returns-in_err-called
returns-in_err-called c =
    let p = err_from_is_err_and c.from_residual-in_err-called.result c.from_residual-in_err-called.ensures.1 in
    let s = c.args.self.now in
    let r = c.from_residual-in_err-called.result in
    named _ c.in_ok-name.name s s r (λ n. ByCalled c.args.ticket s s r (λ f w. Tells unkept.Refusal f (not_now n c.args.minor) s s r)) (sym c.system_name_of.ensures ∙ c.in_ok-name.was)
    (not_called (called_by c.args.ticket (waits_in s.engine) (parked_in s.engine)) c.in_err-called.field-0.0 s r (λ f w. Tells unkept.Refusal f (not_now c.in_ok-name.name c.args.minor) s s r) c.in_err-called.ensures.called (p.1 ∙ ap Err p.2))

pub returns-in-Waits : goal.returns-in-Waits
returns-in-Waits c =
    let s = c.args.self.now in
    let t = c.tell_asked.new.self in
    let r = c.tell_asked.result in
    named _ c.in_ok-name.name s t r (λ n. ByCalled c.args.ticket s t r (λ f w. Tells unkept.Refusal f (not_now n c.args.minor) s t r)) (sym c.system_name_of.ensures ∙ c.in_ok-name.was)
    (by_found (called_by c.args.ticket (waits_in s.engine) (parked_in s.engine)) c.in_ok-called.called.found (awaited_lent c.in_ok-called.called.asked) s t r (λ f w. Tells unkept.Refusal f (not_now c.in_ok-name.name c.args.minor) s t r) c.in_ok-called.ensures.called
    (subst (λ (f : Found). Tells unkept.Refusal f (not_now c.in_ok-name.name c.args.minor) s t r) (sym c.in-Waits.is) c.tell_asked.ensures))

pub returns-in-Parked : goal.returns-in-Parked
returns-in-Parked c =
    let s = c.args.self.now in
    let t = c.tell_parked.new.self in
    let r = c.tell_parked.result in
    named _ c.in_ok-name.name s t r (λ n. ByCalled c.args.ticket s t r (λ f w. Tells unkept.Refusal f (not_now n c.args.minor) s t r)) (sym c.system_name_of.ensures ∙ c.in_ok-name.was)
    (by_found (called_by c.args.ticket (waits_in s.engine) (parked_in s.engine)) c.in_ok-called.called.found (awaited_lent c.in_ok-called.called.asked) s t r (λ f w. Tells unkept.Refusal f (not_now c.in_ok-name.name c.args.minor) s t r) c.in_ok-called.ensures.called
    (subst (λ (f : Found). Tells unkept.Refusal f (not_now c.in_ok-name.name c.args.minor) s t r) (sym c.in-Parked.is) c.tell_parked.ensures))
