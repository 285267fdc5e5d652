use Rattle.std.proofs.Common.{IsSome, Option, Some, map, refl, subst, sym, ◌∙◌}
use Rattle.ft_log.specs.Performed.{Performed}
use Rattle.ft_log.specs.View.{performed_in}
use Rattle.ft_orb.specs.declared.parked.Waiter.{Waiter}
use Rattle.giop_core.specs.Items.{item_at}
use Rattle.lemonrudder.proofs.Tellings.{told-from}
use Rattle.lemonrudder.proofs.Carrying.{carried_by, carries-are}
use Rattle.lemonrudder.proofs.serving.Serving.settle.Goals as goal

pub returns : goal.returns
returns c = (
  refl,
  c.tell_all.ensures.idle,
  (c.tell_all.ensures.catalogue.0 ∙ c.settle.ensures.catalogue, c.tell_all.ensures.catalogue.1),
  c.tell_all.ensures.tickets ∙ c.settle.ensures.asks,
  (
    c.tell_all.ensures.done (subst (λ (o : Option Performed). IsSome o) (sym c.settle.ensures.told) refl),
    λ q apart. let a = c.tell_all.ensures.others q apart in (a.0 ∙ c.settle.ensures.parked q, a.1 ∙ c.settle.ensures.others q apart),
  ),
  (λ x held calls past waiting st.
      let said = map item_at c.args.contexts.now in
      let outcome = performed_in c.args.outcome in
      let carried = λ (w : Waiter). carried_by said (Some w.asker) (Some outcome) in
      let so = c.tell_all.ensures.late x held calls past waiting outcome carried (carries-are said outcome) (c.settle.ensures.late x held calls past waiting st) c.settle.ensures.told in
      (so.i, so.taken, so.was, so.told, so.last, (carried, carries-are said outcome, told-from x held calls c.args.number carried outcome so.told _ so.last c.args.self.now _ c.tell_all.new.self refl refl c.settle.ensures.ended so.are_told), so.none, so.stays)),
  c.tell_all.ensures.counts ∙ c.settle.ensures.counted,
)
