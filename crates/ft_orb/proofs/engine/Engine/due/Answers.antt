use Rattle.std.proofs.Common.{◌≡◌, ◌==◌, ℕ, [], IsSome, false, None, Some, Option, not, refl, sym, ap, ◌∙◌, arith, subst, ◌≤◌, ◌<◌, length}
use Rattle.std.proofs.lemmas.Grind.{common_steps}
use Rattle.std.specs.BTreeMap.{get}
use Rattle.std.specs.Ordering.{nat_cmp}
use Rattle.ft_log.specs.View.{performed_in}
use Rattle.ft_orb.specs.declared.parked.Parked.{Parked}
use Rattle.ft_log.specs.Logged.{logged}
use Rattle.ft_orb.specs.declared.pausing.Pending.{Pending}
use Rattle.ft_log.specs.Performed.{Performed}
use Rattle.ft_orb.specs.declared.keeper.Retained.{Retained}
use Rattle.ft_orb.specs.Engines.{awaited_of}
use Rattle.ft_orb.specs.Parking.{left_of, parked_at, told_of}
use Rattle.ft_log.specs.declared.outcome.Outcome.{Outcome}
use Rattle.std.specs.Option.{option_map}
use Rattle.ft_orb.specs.Waits.{filled_with}
use Rattle.ft_orb.specs.Parked.{going_in}
use Rattle.ft_orb.specs.declared.parked.Waiter.{Waiter}
use Rattle.ft_orb.proofs.Carried.{next-here, next-none, next-same}
use Rattle.ft_orb.proofs.Countings.{counted-written, few-written}
use Rattle.ft_orb.proofs.Owning.{still-idle}
use Rattle.ft_orb.proofs.Settling.{due-late, nobody-is, none-left, not-at, settled-due, settled-late, some-of, told-is}
use Rattle.ft_orb.proofs.Unmoved.{parked-same}
use Rattle.ft_orb.proofs.engine.Engine.due.Goals as goal

pub returns-in-Some-clause-late : goal.returns-in-Some-clause-late
returns-in-Some-clause-late g c s held calls past waiting h =
    let p = c.in_ok-parked.parked.now in
    let q = c.clear.new.self in
    let was : parked_at c.args.self.now c.args.number ≡ Some p = grind (arith, common_steps) in
    let is : get nat_cmp (c.get_mut.follows.lender q) c.args.number ≡ Some q = grind (arith, common_steps) in
    let others : (m : ℕ) → (m == c.args.number) ≡ false → get nat_cmp (c.get_mut.follows.lender q) m ≡ get nat_cmp c.args.self.now.parked.requests m = λ m apart. grind (arith, common_steps) in
    let o = some-of p.outcome (c.is_none.ensures ∙ ap not c.if-is_none.false) in
    due-late g.C.Catalogue.offers s held calls c.args.self.now _ past waiting h c.args.number p was (record { offer_is = h.rests.offer_is; idle = h.rests.idle; stands = h.rests.stands }) refl refl others q c.clear.ensures
    (performed_in o.0) (told-is c.args.self.now c.args.number p o.0 was o.1) is c.in-Some.first.now (let long = c.in-Some.ensures.variant in grind (arith, common_steps)) c.in-Some.ensures.lookup

pub returns-clause-late : goal.returns-clause-late
returns-clause-late g c s held calls past waiting h =
    let n = c.args.number in
    let p = c.in_ok-parked.parked.now in
    let q = c.clear.new.self in
    let was : parked_at c.args.self.now n ≡ Some p = grind (arith, common_steps) in
    let there : IsSome (get nat_cmp c.args.self.now.parked.requests n) = subst (λ (o : Option Parked). IsSome o) (sym was) refl in
    let wrote = (c.get_mut.follows.holds q).3 there in
    let taken : Some c.in_ok-parked-2.parked ≡ Some q = grind (arith, common_steps) in
    let others : (m : ℕ) → (m == n) ≡ false → get nat_cmp c.take.new.self.requests m ≡ get nat_cmp c.args.self.now.parked.requests m = λ m apart. c.take.ensures.others m apart ∙ wrote.2 m (not-at n m apart) in
    let gone : get nat_cmp c.take.new.self.requests n ≡ None = c.take.ensures.gone in
    let empty : q.waiters.items ≡ [] = none-left q.waiters.items (let short = c.in_default.not-Some in grind (arith, common_steps)) in
    let same : c.in_ok-parked-2.parked ≡ q = cc in
    let request = ap (λ (x : Parked). x.pending) same ∙ c.clear.ensures.0.0 in
    let nobody = nobody-is g.C.Catalogue.offers s held calls c.args.self.now c.args.self.now past waiting h n p was h.rests refl refl (λ m x. refl) q c.clear.ensures empty in
    let outcome : p.outcome ≡ Some c.in-Some-told.outcome = sym c.clear.ensures.0.1 ∙ ap (λ (x : Parked). x.outcome) (sym same) ∙ c.in-Some-told.is in
    let kept : c.take-retained.result ≡ p.pending.waiting.retained = c.take-retained.ensures.value ∙ ap (λ (x : Pending). x.waiting.retained) request in
    let filled-in = c.fill.ensures.filled ∙ ap (λ (r : Option Retained). filled_with r n (performed_in c.in-Some-told.outcome) (logged c.args.self.now.keeper.log).entries) kept in
    settled-due g.C.Catalogue.offers s held calls c.args.self.now _ past waiting h n p was (performed_in c.in-Some-told.outcome) (told-is c.args.self.now n p c.in-Some-told.outcome was outcome)
    (settled-late g.C.Catalogue.offers s held calls c.args.self.now _ past waiting h n p was (performed_in c.in-Some-told.outcome) nobody refl (still-idle c.args.self.now.asking c.args.self.now.keeper.slot _ c.requires.idle ∙ sym c.requires.idle) refl refl refl c.fill.ensures.clock refl refl c.fill.ensures.capacity c.fill.ensures.share filled-in gone others)

pub returns-clause-waits : goal.returns-clause-waits
returns-clause-waits g c = still-idle c.args.self.now.asking c.args.self.now.keeper.slot _ c.requires.idle ∙ sym c.requires.idle

pub returns-in-Some-clause-left : goal.returns-in-Some-clause-left
returns-in-Some-clause-left g c =
    let n = c.args.number in
    let p = c.in_ok-parked.parked.now in
    let q = c.clear.new.self in
    let was : parked_at c.args.self.now n ≡ Some p = grind (arith, common_steps) in
    let is : get nat_cmp (c.get_mut.follows.lender q) n ≡ Some q = grind (arith, common_steps) in
    let o = some-of p.outcome (c.is_none.ensures ∙ ap not c.if-is_none.false) in
    let told : told_of (get nat_cmp (c.get_mut.follows.lender q) n) ≡ Some (performed_in o.0) = ap (λ (x : Option Parked). told_of x) is ∙ ap (λ (x : Option Outcome). option_map performed_in x) (c.clear.ensures.0.1 ∙ o.1) in
    let some : 0 < length q.waiters.items = (let long = c.in-Some.ensures.variant in grind (arith, common_steps)) in
    let few = c.clear.ensures.4 in (
      subst (λ (x : Option Performed). IsSome x) (sym told) refl,
      subst (λ (x : Option Parked). 0 < left_of x) (sym is) some,
      subst (λ (x : Option Parked). left_of x ≤ left_of (parked_at c.args.self.now n)) (sym is) (subst (λ (x : Option Parked). left_of (Some q) ≤ left_of x) (sym was) few),
    )

pub invariant_of-self-then-is_none : goal.invariant_of-self-then-is_none
invariant_of-self-then-is_none g c =
    let lot = c.args.self.now.parked in
    let was : parked_at c.args.self.now c.args.number ≡ Some c.in_ok-parked.parked.now = grind (arith, common_steps) in
    ((few-written lot.requests (c.get_mut.follows.lender _) c.args.number _ (c.get_mut.follows.holds _) lot.few, (counted-written lot.requests (c.get_mut.follows.lender _) lot.counts c.args.number c.in_ok-parked.parked.now _ (c.get_mut.follows.holds _) was refl lot.counted, tt)), (c.args.self.now.ready, tt))

pub invariant_of-self-in-Some : goal.invariant_of-self-in-Some
invariant_of-self-in-Some g c =
    let lot = c.args.self.now.parked in
    let was : parked_at c.args.self.now c.args.number ≡ Some c.in_ok-parked.parked.now = grind (arith, common_steps) in
    ((few-written lot.requests (c.get_mut.follows.lender _) c.args.number _ (c.get_mut.follows.holds _) lot.few, (counted-written lot.requests (c.get_mut.follows.lender _) lot.counts c.args.number c.in_ok-parked.parked.now _ (c.get_mut.follows.holds _) was c.clear.ensures.0.0 lot.counted, tt)), (c.args.self.now.ready, tt))

pub invariant_of-self-in_default : goal.invariant_of-self-in_default
invariant_of-self-in_default g c =
    let lot = c.args.self.now.parked in
    let was : parked_at c.args.self.now c.args.number ≡ Some c.in_ok-parked.parked.now = grind (arith, common_steps) in
    (few-written lot.requests (c.get_mut.follows.lender _) c.args.number _ (c.get_mut.follows.holds _) lot.few, (counted-written lot.requests (c.get_mut.follows.lender _) lot.counts c.args.number c.in_ok-parked.parked.now _ (c.get_mut.follows.holds _) was c.clear.ensures.0.0 lot.counted, tt))

pub returns-then-is_none-clause-early : goal.returns-then-is_none-clause-early
returns-then-is_none-clause-early g c none =
    let n = c.args.number in
    let p = c.in_ok-parked.parked.now in
    let was : parked_at c.args.self.now n ≡ Some p = grind (arith, common_steps) in
    let there : IsSome (get nat_cmp c.args.self.now.parked.requests n) = subst (λ (o : Option Parked). IsSome o) (sym was) refl in
    let wrote = (c.get_mut.follows.holds _).3 there in
    (refl, parked-same (get nat_cmp c.args.self.now.parked.requests) _ n p _ was wrote.1 refl refl (λ m apart. wrote.2 m (not-at n m apart)))

pub returns-in-Some-clause-early : goal.returns-in-Some-clause-early
returns-in-Some-clause-early g c none =
    let n = c.args.number in
    let p = c.in_ok-parked.parked.now in
    let was : parked_at c.args.self.now n ≡ Some p = grind (arith, common_steps) in
    let o = some-of p.outcome (c.is_none.ensures ∙ ap not c.if-is_none.false) in
    absurd (let both = sym (told-is c.args.self.now n p o.0 was o.1) ∙ none in cc)

pub returns-clause-early : goal.returns-clause-early
returns-clause-early g c none =
    let n = c.args.number in
    let p = c.in_ok-parked.parked.now in
    let was : parked_at c.args.self.now n ≡ Some p = grind (arith, common_steps) in
    let o = some-of p.outcome (c.is_none.ensures ∙ ap not c.if-is_none.false) in
    absurd (let both = sym (told-is c.args.self.now n p o.0 was o.1) ∙ none in cc)

pub returns-clause-done : goal.returns-clause-done
returns-clause-done g c told none = ap (λ (o : Option Parked). option_map (λ (x : Parked). awaited_of x.pending) o) c.take.ensures.gone

pub returns-in-Some-clause-next : goal.returns-in-Some-clause-next
returns-in-Some-clause-next g c told =
    let n = c.args.number in
    let p = c.in_ok-parked.parked.now in
    let q = c.clear.new.self in
    let was : parked_at c.args.self.now n ≡ Some p = grind (arith, common_steps) in
    let some : 0 < length q.waiters.items = (let long = c.in-Some.ensures.variant in grind (arith, common_steps)) in
    ap (option_map (λ (w : Waiter). w.connection)) (sym (next-here (going_in c.args.self.now.links) (parked_at c.args.self.now n) p q c.in-Some.first.now was c.clear.ensures some c.in-Some.ensures.lookup))

pub returns-in-Some-clause-stays : goal.returns-in-Some-clause-stays
returns-in-Some-clause-stays g c =
    let n = c.args.number in
    let p = c.in_ok-parked.parked.now in
    let q = c.clear.new.self in
    let was : parked_at c.args.self.now n ≡ Some p = grind (arith, common_steps) in
    let is : get nat_cmp (c.get_mut.follows.lender q) n ≡ Some q = grind (arith, common_steps) in
    next-same (going_in c.args.self.now.links) (parked_at c.args.self.now n) (get nat_cmp (c.get_mut.follows.lender q) n) p q was is c.clear.ensures

pub returns-clause-next : goal.returns-clause-next
returns-clause-next g c told =
    let n = c.args.number in
    let p = c.in_ok-parked.parked.now in
    let q = c.clear.new.self in
    let was : parked_at c.args.self.now n ≡ Some p = grind (arith, common_steps) in
    let empty : q.waiters.items ≡ [] = none-left q.waiters.items (let short = c.in_default.not-Some in grind (arith, common_steps)) in
    ap (option_map (λ (w : Waiter). w.connection)) (sym (next-none (going_in c.args.self.now.links) (parked_at c.args.self.now n) p q was c.clear.ensures empty))
