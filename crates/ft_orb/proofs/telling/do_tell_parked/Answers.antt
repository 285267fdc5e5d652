use Rattle.std.proofs.Common.{List, ◌++◌, Option, IsSome, refl, sym, ap, subst, ◌∙◌, arith}
use Rattle.std.proofs.lemmas.Grind.{common_steps}
use Rattle.ft_log.specs.Performed.{Performed}
use Rattle.ft_log.specs.View.{performed_in}
use Rattle.ft_orb.specs.declared.deeds.Deed.TheVariants as code
use Rattle.ft_orb.specs.declared.events.Written.{Written}
use Rattle.ft_orb.specs.Deeds.{without_call}
use Rattle.ft_orb.specs.Parking.{CanSettle, parked_at}
use Rattle.ft_orb.proofs.Acting.{resting, tells-parked}
use Rattle.ft_orb.proofs.telling.do_tell_parked.Goals as goal

pub tell_all-requires : goal.tell_all-requires
tell_all-requires g c = record { idle = c.tell_parked.ensures.waits ∙ c.requires.idle; room = grind (arith, common_steps) }

pub returns-clause-ok : goal.returns-clause-ok
returns-clause-ok g c s h holds =
    let r = resting g.C.Catalogue.offers s h c.args.engine.now holds c.requires.idle in
    let y = c.tell_parked.ensures.late s h.held h.calls h.past h.waiting r.stays in
    let t = c.tell_all.ensures.told s (without_call y.i h) (performed_in c.in-Ok.copy) y.stays c.tell_parked.ensures.told in (
      t.written,
      t.appended ∙ ap (λ (l : List Written). l ++ t.written) c.reserve.ensures.items,
      tells-parked g.C.Catalogue.offers s h c.args.engine.now c.tell_parked.new.self c.tell_all.new.engine r c.args.number (performed_in c.in-Ok.copy) c.reserve.new.self.items c.tell_all.new.out.items y t (c.tell_all.ensures.asks ∙ c.tell_parked.ensures.asks)
          (subst (λ (o : Performed). CanSettle (g.C.Catalogue.offers c.args.engine.now.offering.catalogue) (parked_at c.args.engine.now c.args.number) o) (sym c.in-Ok.ensures) (c.can_settle.ensures.0 c.if-not-can_settle.false))
          (c.tell_all.ensures.done (subst (λ (o : Option Performed). IsSome o) (sym c.tell_parked.ensures.told) refl))
          (λ q apart. let a = c.tell_all.ensures.others q apart in let b = c.tell_parked.ensures.others q apart in (a.0 ∙ b.0, a.1 ∙ b.1))
          (code.TellParked c.args.number c.args.outcome.now) (refl, c.in-Ok.ensures),
    )
