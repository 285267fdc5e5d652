use Rattle.std.proofs.Common.{◌≡◌, ◌==◌, ℕ, false, Some, Option, refl, sym, ap, ◌∙◌, arith}
use Rattle.std.proofs.lemmas.Grind.{common_steps}
use Rattle.std.specs.BTreeMap.{get}
use Rattle.std.specs.Ordering.{nat_cmp}
use Rattle.ft_log.specs.Logged.{logged}
use Rattle.ft_orb.specs.declared.keeper.Retained.{Retained}
use Rattle.ft_orb.specs.declared.parked.Parked.{Parked}
use Rattle.ft_orb.specs.Parking.{parked_at}
use Rattle.ft_orb.specs.Waits.{without_parked}
use Rattle.ft_orb.proofs.Countings.{counted-moved, few-written}
use Rattle.ft_orb.proofs.LettingGo.{withdraws}
use Rattle.ft_orb.proofs.Owning.{still-idle}
use Rattle.ft_orb.proofs.engine.Engine.tell_parked.Goals as goal

pub returns-in-Some-clause-late : goal.returns-in-Some-clause-late
returns-in-Some-clause-late g c s held calls past waiting h =
    let n = c.args.number in
    let p = c.in-Some.parked.now in
    let q : Parked = record {
      pending = record p.pending { waiting = record p.pending.waiting { retained = c.take-retained.new.self } };
      waiters = p.waiters;
      outcome = Some c.args.outcome;
      short = c.parked-1.given.0;
      renderable = c.parked-1.given.1.0;
    } in
    let was : parked_at c.args.self.now n ≡ Some p = grind (arith, common_steps) in
    let is : get nat_cmp (c.get_mut.follows.lender q) n ≡ Some q = grind (arith, common_steps) in
    let others : (m : ℕ) → (m == n) ≡ false → get nat_cmp (c.get_mut.follows.lender q) m ≡ get nat_cmp c.args.self.now.parked.requests m = λ m apart. grind (arith, common_steps) in
    let entries = c.withdraw.ensures.entries ∙ ap (λ (r : Option Retained). without_parked r n (logged c.args.self.now.keeper.log).entries) c.take-retained.ensures.value in
    withdraws g.C.Catalogue.offers s held calls c.args.self.now _ past waiting n p q h was is others c.take-retained.ensures.after refl entries c.withdraw.ensures.capacity c.withdraw.ensures.share c.withdraw.ensures.clock refl
    (still-idle c.args.self.now.asking c.args.self.now.keeper.slot _ c.requires.idle ∙ sym c.requires.idle) refl refl refl refl refl

pub invariant_of-self : goal.invariant_of-self
invariant_of-self g c =
    let lot = c.args.self.now.parked in
    let was : parked_at c.args.self.now c.args.number ≡ Some c.in-Some.parked.now = grind (arith, common_steps) in
    (few-written lot.requests (c.get_mut.follows.lender _) c.args.number _ (c.get_mut.follows.holds _) lot.few, (counted-moved lot.requests (c.get_mut.follows.lender _) lot.counts c.args.number c.in-Some.parked.now _ (c.get_mut.follows.holds _) was refl lot.counted, tt))
