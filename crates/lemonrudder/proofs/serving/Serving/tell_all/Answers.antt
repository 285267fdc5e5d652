use Rattle.std.proofs.Common.{ℕ, ◌<◌, ◌≤◌, [], Option, IsSome, refl, sym, subst, ◌∙◌, arith}
use Rattle.ft_log.specs.Performed.{Performed}
use Rattle.ft_orb.specs.Parking.{left_in}
use Rattle.lemonrudder.proofs.Asked.{asked-idle}
use Rattle.lemonrudder.proofs.Tellings.{tells-all, told-next}
use Rattle.lemonrudder.proofs.serving.Serving.tell_all.Goals as goal

less-by : (a b c : ℕ) → a < b → b ≤ c → a < c
less-by a b c h k = omega (arith, h, k)

pub loop-connection-init : goal.loop-connection-init
loop-connection-init c = record {
  idle = c.requires.idle;
  catalogue = (refl, refl);
  tickets = refl;
  counts = refl;
  telling = refl;
  others = λ q apart. (refl, refl);
  told = λ x held calls past waiting outcome carried car st telling. ([], record { past = past; waiting = waiting }, (refl, refl, refl, λ c. refl), st);
}

pub loop-connection-smaller : goal.loop-connection-smaller
loop-connection-smaller c = less-by _ _ _ (subst (λ k. k < left_in c.due.new.self c.args.number) (sym (c.finish.ensures.left c.args.number)) c.tell.ensures.fewer) c.in-Some.ensures.left.2

pub tell-requires : goal.tell-requires
tell-requires c = record {
  idle = c.due.ensures.waits ∙ c.loop-connection.invariant.idle;
  told = c.in-Some.ensures.left.0;
  left = c.in-Some.ensures.left.1;
}

pub finish-requires : goal.finish-requires
finish-requires c = record { idle = c.tell.ensures.idle }

pub loop-connection-preserved : goal.loop-connection-preserved
loop-connection-preserved c =
    let inv = c.loop-connection.invariant in
    record {
      idle = c.finish.ensures.idle;
      catalogue = (c.finish.ensures.catalogue.0 ∙ c.tell.ensures.catalogue.0 ∙ c.due.ensures.catalogue ∙ inv.catalogue.0, c.finish.ensures.catalogue.1 ∙ c.tell.ensures.catalogue.1 ∙ inv.catalogue.1);
      tickets = c.finish.ensures.tickets ∙ c.tell.ensures.tickets ∙ c.due.ensures.asks ∙ inv.tickets;
      counts = c.finish.ensures.counts ∙ c.tell.ensures.counts ∙ c.due.ensures.counts ∙ inv.counts;
      telling = (c.finish.ensures.parked c.args.number).1 ∙ (c.tell.ensures.parked c.args.number).1 ∙ (c.in-Some.ensures.parked c.args.number).1 ∙ inv.telling;
      others = λ q apart.
          let a = c.tell.ensures.parked q in
          let b = c.in-Some.ensures.parked q in
          let p = c.finish.ensures.parked q in
          let x = inv.others q apart in
          (p.0 ∙ a.0 ∙ b.0 ∙ x.0, p.1 ∙ a.1 ∙ b.1 ∙ x.1);
      told = λ x held calls past waiting outcome carried car st telling.
          let so = inv.told x held calls past waiting outcome carried car st telling in
          told-next x held calls c.args.number carried outcome so.0 _ so.1 c.args.self.now c.loop-connection.self _ c.tell.new.self c.finish.new.self refl refl c.due.ensures.ended so.2 so.3 c.in-Some.connection (inv.telling ∙ telling) (c.in-Some.ensures.late x) ((c.in-Some.ensures.parked c.args.number).1) (λ held' calls' past' waiting' w rest st' telling' is on. c.tell.ensures.late x held' calls' past' waiting' outcome carried w rest car st' telling' is on) c.finish.ensures.parts;
    }

pub returns-clause-late : goal.returns-clause-late
returns-clause-late c x held calls past waiting outcome carried car st telling =
    let inv = c.loop-connection.invariant in
    let so = inv.told x held calls past waiting outcome carried car st telling in
    tells-all x held calls c.args.number carried outcome so.0 _ so.1 c.args.self.now c.loop-connection.self _ refl refl c.due.ensures.ended so.2 so.3 (inv.telling ∙ telling) (c.in_default.ensures.late x)

pub returns-clause-done : goal.returns-clause-done
returns-clause-done c some = c.in_default.ensures.done (subst (λ (o : Option Performed). IsSome o) (sym c.loop-connection.invariant.telling) some) refl

pub returns-clause-others : goal.returns-clause-others
returns-clause-others c q apart =
    let a = c.due.ensures.others q apart in
    let x = c.loop-connection.invariant.others q apart in
    (a.0 ∙ x.0, a.1 ∙ x.1)

pub invariant_of-self : goal.invariant_of-self
invariant_of-self c = record { asked = asked-idle c.loop-connection.self.connections c.due.new.self (c.due.ensures.waits ∙ c.loop-connection.invariant.idle) }
