use Rattle.std.proofs.Common.{◌∙◌, [], ◌∷◌, ap, inr, subst, sym}
use Rattle.cdr_core.specs.Value.{Value, Values, values}
use Rattle.cdr_core.specs.View.{values_of}
use Rattle.ft_log.specs.Performed.{returned}
use Rattle.ft_orb.specs.Engines.{awaited_lent, waits_in}
use Rattle.ft_orb.specs.Parking.{parked_in}
use Rattle.lemonrudder.specs.Outcomes.{HandsIn, Identifies, identity_at}
use Rattle.lemonrudder.specs.Tickets.{called_by}
use Rattle.lemonrudder.proofs.Handing.{by_found}
use Rattle.lemonrudder.proofs.Reading.{value-boolean}
use Rattle.lemonrudder.proofs.serving.Serving.identify.Goals as goal

pub returns : goal.returns
returns c =
    let s = c.args.self.now in
    let t = c.hand_in.new.self in
    let r = c.hand_in.result in
    let w = awaited_lent c.in_ok-called.called.asked in
    let truth = c.in-Some.truth in
    let told = ap values_of c.in_ok-results.ensures.items ∙ ap (λ (v : Value). values (v ∷ [])) (value-boolean truth) in
    by_found (called_by c.args.ticket (waits_in s.engine) (parked_in s.engine)) c.in_ok-called.called.found w s t r (λ f x. Identifies c.args.ticket f (identity_at s x) s t r) c.in_ok-called.ensures.called
    (subst (λ o. Identifies c.args.ticket c.in_ok-called.called.found o s t r) (sym (sym c.identity.ensures ∙ c.in-Some.is)) (inr (subst (λ (vs : Values). HandsIn c.args.ticket c.in_ok-called.called.found 1 (returned vs) s t r) told c.hand_in.ensures)))
