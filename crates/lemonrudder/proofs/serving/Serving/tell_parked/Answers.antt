use Rattle.std.proofs.Common.{[], IsSome, Option, refl, subst, sym, ◌∙◌, ◌∷◌, ℕ}
use Rattle.ft_log.specs.Performed.{Performed}
use Rattle.ft_log.specs.View.{performed_in}
use Rattle.ft_log.specs.Holding.{known}
use Rattle.ft_objects.specs.Families.{families_offer}
use Rattle.ft_orb.specs.History.{Withdrew}
use Rattle.ft_orb.specs.Parking.{Stays, put_at}
use Rattle.lemonrudder.proofs.Carrying.{carries-none}
use Rattle.lemonrudder.proofs.Idling.{not_so}
use Rattle.lemonrudder.proofs.Tellings.{told-from}
use Rattle.lemonrudder.proofs.serving.Serving.tell_parked.Goals as goal

pub returns-then-not-can_settle : goal.returns-then-not-can_settle
returns-then-not-can_settle c = (λ cannot. (refl, refl), λ can. absurd (not_so c.if-not-can_settle.true (c.can_settle.ensures.1 can)))

pub returns : goal.returns
returns c = (
  λ cannot. absurd (cannot (c.can_settle.ensures.0 c.if-not-can_settle.false)),
  λ can. (
    refl,
    c.tell_all.ensures.idle,
    (c.tell_all.ensures.catalogue.0 ∙ c.tell_parked.ensures.catalogue, c.tell_all.ensures.catalogue.1),
    c.tell_all.ensures.tickets ∙ c.tell_parked.ensures.asks,
    (
      c.tell_all.ensures.done (subst (λ (o : Option Performed). IsSome o) (sym c.tell_parked.ensures.told) refl),
      λ q apart. let a = c.tell_all.ensures.others q apart in let b = c.tell_parked.ensures.others q apart in (a.0 ∙ b.0, a.1 ∙ b.1),
    ),
    (λ x held calls past waiting st.
        let y = c.tell_parked.ensures.late x held calls past waiting st in
        let so = c.tell_all.ensures.late x held calls (Withdrew y.i ∷ past) waiting (performed_in c.args.outcome) (λ w. []) (carries-none (performed_in c.args.outcome)) y.stays c.tell_parked.ensures.told in
        let same = y.stays.parks.once so.i y.i c.args.number so.taken y.taken so.was y.was in (
          y.i,
          y.taken,
          y.was,
          so.told,
          so.last,
          told-from x held calls c.args.number (λ w. []) (performed_in c.args.outcome) so.told _ so.last c.args.self.now _ c.tell_all.new.self refl refl c.tell_parked.ensures.ended so.are_told,
          so.none,
          subst (λ (i : ℕ). Stays families_offer x (put_at i (known (performed_in c.args.outcome)) held) calls c.tell_all.new.self.engine so.last.past so.last.waiting) same so.stays,
        )),
    c.tell_all.ensures.counts ∙ c.tell_parked.ensures.counted,
  ),
)
