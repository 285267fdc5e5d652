use Rattle.std.proofs.Common.{List, ◌++◌, Option, IsSome, refl, sym, ap, subst, ◌∙◌, arith}
use Rattle.std.proofs.lemmas.Grind.{common_steps}
use Rattle.ft_log.specs.Performed.{Performed}
use Rattle.ft_orb.specs.declared.deeds.Deed.TheVariants as code
use Rattle.ft_orb.specs.declared.events.Written.{Written}
use Rattle.ft_orb.specs.Deeds.{without_call}
use Rattle.ft_orb.specs.Parking.{not_now}
use Rattle.ft_orb.proofs.Acting.{resting, tells-parked}
use Rattle.ft_orb.proofs.telling.do_withdraw.Goals as goal

pub tell_all-requires : goal.tell_all-requires
tell_all-requires g c = record { idle = c.withdraw.ensures.waits ∙ c.requires.idle; room = grind (arith, common_steps) }

pub returns-clause-ok : goal.returns-clause-ok
returns-clause-ok g c s h holds =
    let r = resting g.C.Catalogue.offers s h c.args.engine.now holds c.requires.idle in
    let y = c.withdraw.ensures.late s h.held h.calls h.past h.waiting r.stays in
    let t = c.tell_all.ensures.told s (without_call y.i h) (not_now c.args.name c.args.minor) y.stays c.withdraw.ensures.told in (
      t.written,
      t.appended ∙ ap (λ (l : List Written). l ++ t.written) c.reserve.ensures.items,
      tells-parked g.C.Catalogue.offers s h c.args.engine.now c.withdraw.new.self c.tell_all.new.engine r c.args.number (not_now c.args.name c.args.minor) c.reserve.new.self.items c.tell_all.new.out.items y t (c.tell_all.ensures.asks ∙ c.withdraw.ensures.asks) (c.can_settle.ensures.0 c.if-not-can_settle.false)
          (c.tell_all.ensures.done (subst (λ (o : Option Performed). IsSome o) (sym c.withdraw.ensures.told) refl))
          (λ q apart. let a = c.tell_all.ensures.others q apart in let b = c.withdraw.ensures.others q apart in (a.0 ∙ b.0, a.1 ∙ b.1))
          (code.Withdraw c.args.number c.args.name c.args.minor) (refl, refl),
    )
