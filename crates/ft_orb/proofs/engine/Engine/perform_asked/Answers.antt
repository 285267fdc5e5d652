use Rattle.std.proofs.Common.{ℕ, false, [], ◌∷◌, ◌++◌, Option, Err, refl, sym, ap, subst, ◌∙◌}
use Rattle.std.specs.Option.{option_map}
use Rattle.std.proofs.lemmas.Result.{err_from_is_err_and}
use Rattle.ft_log.specs.View.{performed_in}
use Rattle.ft_objects.specs.Interfaces.{IsOutcomeOf}
use Rattle.ft_objects.specs.Replies.{IsRenderable}
use Rattle.ft_objects.specs.facts.Answers.{outcome_is_answer}
use Rattle.ft_orb.specs.declared.events.Note.TheVariants.{Done, Memory}
use Rattle.ft_orb.specs.declared.pausing.Ask.{Ask}
use Rattle.ft_orb.specs.Engines.{CanAnswer, IsFit, awaited_of}
use Rattle.ft_orb.specs.Owners.{owning}
use Rattle.ft_orb.specs.Pause.{pending_by, pending_of}
use Rattle.ft_orb.specs.Runs.{offer_by, owner_by}
use Rattle.ft_orb.specs.Standing.{note_of}
use Rattle.ft_orb.proofs.Owning.{given-count}
use Rattle.ft_orb.proofs.Servants.{asked-by, asked-plainly, given-by, performed-is, resumed-by}
use Rattle.ft_orb.proofs.engine.Engine.perform_asked.Goals as goal

-- the servant keeps its promise of what it gives
pub answer-requires : goal.answer-requires
answer-requires g c =
    let ok = rw (c.deref.ensures.value, c.deref-2.ensures.value, c.deref-3.ensures.value) at c.in-Ok.ensures.ok in
    let fit = asked-plainly c.args.self.now.keeper.slot.refused _ _ (subst (λ (o : Option Ask). IsFit false (offer_by g.S.Servant.meaning c.args.self.now.offering.catalogue) (option_map awaited_of (pending_of c.args.self.now.keeper.slot o))) c.in-Some.is c.requires.fit) in
    record {
      can = subst (λ (o : Option Ask). CanAnswer (offer_by g.S.Servant.meaning c.args.self.now.offering.catalogue) (option_map awaited_of (pending_of c.args.self.now.keeper.slot o)) c.in-Some.ask.number (performed_in c.in-Ok.outcome)) (sym c.in-Some.is) (
        refl,
        subst IsRenderable (ap (λ x. x.1) ok) (g.S.Servant.promises.renderable c.args.self.now.offering.catalogue _ _ _ c.known.ensures fit),
        outcome_is_answer _ _ (subst (IsOutcomeOf _) (ap (λ x. x.1) ok) (g.S.Servant.promises.fits c.args.self.now.offering.catalogue _ _ _ c.known.ensures fit)),
      );
    }

pub returns-in_ok-answer-in-Ok-clause-table : goal.returns-in_ok-answer-in-Ok-clause-table
returns-in_ok-answer-in-Ok-clause-table g c made calls past moment octets written w a state =
    let ok = rw (c.deref.ensures.value, c.deref-2.ensures.value, c.deref-3.ensures.value) at c.in-Ok.ensures.ok in
    let gave = performed-is g.S.Servant.meaning made calls c.args.self.now (pending_by c.args.self.now.keeper.slot c.in-Some.ask) w c.perform.new.self (performed_in c.in-Ok.outcome) (ap (pending_of c.args.self.now.keeper.slot) c.in-Some.is) a.waits state ok in
    let x = asked-by g.S.Servant.meaning made calls c.args.self.now _ past moment octets written w (refl, refl) refl refl refl refl refl a in (
      given-count (offer_by g.S.Servant.meaning) (owning (owner_by g.S.Servant.meaning made)) calls c.args.self.now past moment octets written (pending_by c.args.self.now.keeper.slot c.in-Some.ask) w (ap (pending_of c.args.self.now.keeper.slot) c.in-Some.is) a,
      resumed-by g.S.Servant.meaning made (calls ++ w.call ∷ []) past w.connection moment octets written Done c.answer.new.self c.args.out.now.items c.answer.new.out.items (ap (λ o. o.catalogue) c.answer.ensures.catalogue ∙ gave.1)
          (c.in_ok-answer-in-Ok.ensures.table (owner_by g.S.Servant.meaning made) calls past moment octets written w x gave.0),
    )

pub returns-in_err-answer-in-Ok-clause-table : goal.returns-in_err-answer-in-Ok-clause-table
returns-in_err-answer-in-Ok-clause-table g c made calls past moment octets written w a state =
    let p = err_from_is_err_and c.from_residual.result c.from_residual.ensures.1 in
    let ok = rw (c.deref.ensures.value, c.deref-2.ensures.value, c.deref-3.ensures.value) at c.in-Ok.ensures.ok in
    let gave = performed-is g.S.Servant.meaning made calls c.args.self.now (pending_by c.args.self.now.keeper.slot c.in-Some.ask) w c.perform.new.self (performed_in c.in-Ok.outcome) (ap (pending_of c.args.self.now.keeper.slot) c.in-Some.is) a.waits state ok in
    let x = asked-by g.S.Servant.meaning made calls c.args.self.now _ past moment octets written w (refl, refl) refl refl refl refl refl a in
    rw (p.1, p.2) (resumed-by g.S.Servant.meaning made (calls ++ w.call ∷ []) past w.connection moment octets written (note_of {A = ℕ} (Err c.in_err-answer-in-Ok.field-0.0)) c.answer.new.self c.args.out.now.items c.answer.new.out.items (ap (λ o. o.catalogue) c.answer.ensures.catalogue ∙ gave.1)
    (c.in_err-answer-in-Ok.ensures.table (owner_by g.S.Servant.meaning made) calls past moment octets written w x gave.0))

pub returns-in-Err-clause-table : goal.returns-in-Err-clause-table
returns-in-Err-clause-table g c made calls past moment octets written w a state =
    let x = asked-by g.S.Servant.meaning made calls c.args.self.now _ past moment octets written w (refl, refl) refl refl refl refl refl a in
    resumed-by g.S.Servant.meaning made calls past w.connection moment octets written (Memory c.give_up-answered.result c.give_up-answered.result) c.give_up-answered.new.self c.args.out.now.items c.args.out.now.items (ap (λ o. o.catalogue) c.give_up-answered.ensures.catalogue ∙ c.in-Err.ensures.err ∙ state)
    (given-by g.S.Servant.meaning made calls past w.connection moment octets written (Memory c.give_up-answered.result c.give_up-answered.result) c.give_up-answered.new.self c.args.out.now.items
    (c.give_up-answered.ensures.table (owner_by g.S.Servant.meaning made) calls past moment octets written w x))
