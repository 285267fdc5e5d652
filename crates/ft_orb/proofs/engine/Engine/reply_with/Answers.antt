use Rattle.std.proofs.Common.{List, map, cond, inl, inr, ◌≡◌, ◌==◌, ℕ, ◌<◌, ◌++◌, [], IsSome, false, None, Some, Option, length, refl, sym, ap, ◌∙◌, arith, subst}
use Rattle.std.proofs.lemmas.Grind.{common_steps}
use Rattle.std.specs.BTreeMap.{get}
use Rattle.std.specs.Ordering.{nat_cmp}
use Rattle.ft_log.specs.View.{performed_in}
use Rattle.ft_log.specs.Performed.{Performed}
use Rattle.ft_orb.specs.Endings.{ending_of}
use Rattle.ft_orb.specs.declared.ending.Ended.{Ended}
use Rattle.ft_orb.specs.declared.ending.Ending.TheVariants.{Memory as OutOfMemory}
use Rattle.ft_orb.specs.declared.parked.Parked.{Parked}
use Rattle.ft_orb.specs.declared.parked.Waiter.{Waiter}
use Rattle.ft_orb.specs.Parking.{numbering, parked_at, told_in}
use Rattle.ft_orb.specs.Parked.{going_in}
use Rattle.std.proofs.lemmas.List.{append-nil}
use Rattle.giop_core.specs.Items.{item_at}
use Rattle.ft_orb.specs.Carrying.{due_in, reply_if}
use Rattle.ft_orb.proofs.Carried.{bare, carried-fits, due-first, due-none, due-reply, some-plain, unsent-nobody}
use Rattle.ft_orb.specs.Tellings.{nothing_yet, reply_by}
use Rattle.ft_orb.proofs.Countings.{counted-written, few-written}
use Rattle.ft_orb.proofs.Settling.{cleared-late, first-by, nobody-is, none-left, not-at, replied-late, told-is, unreplied-late}
use Rattle.ft_orb.proofs.Meanwhile.{rests-lost, un-put}
use Rattle.ft_orb.proofs.Unmoved.{left-fewer, parked-same}
use Rattle.ft_orb.proofs.engine.Engine.reply_with.Goals as goal

pub returns-in_default-pop_front-clause-late : goal.returns-in_default-pop_front-clause-late
returns-in_default-pop_front-clause-late g c s held calls past waiting outcome w rest h told waits =
    let p = c.in-Some.parked.now in
    let q = c.clear.new.self in
    let was : parked_at c.args.self.now c.args.number ≡ Some p = grind (arith, common_steps) in
    let empty : q.waiters.items ≡ [] = none-left q.waiters.items (let short = c.in_default-pop_front.not-Some in grind (arith, common_steps)) in
    let nobody = nobody-is g.C.Catalogue.offers s held calls c.args.self.now c.args.self.now past waiting h c.args.number p was h.rests refl refl (λ m x. refl) q c.clear.ensures empty in
    absurd (let both = sym waits ∙ nobody in cc)

pub returns-in-Answered-clause-late : goal.returns-in-Answered-clause-late
returns-in-Answered-clause-late g c s held calls past waiting outcome w rest h told waits =
    let n = c.args.number in
    let p = c.in-Some.parked.now in
    let q = c.clear.new.self in
    let was : parked_at c.args.self.now n ≡ Some p = grind (arith, common_steps) in
    let there : IsSome (get nat_cmp c.args.self.now.parked.requests n) = subst (λ (o : Option Parked). IsSome o) (sym was) refl in
    let wrote = (c.get_mut.follows.holds _).3 there in
    let due : due_in c.args.self.now n ≡ Some c.in-Some-pop_front.first.asker = due-first (going_in c.args.self.now.links) (parked_at c.args.self.now n) p q c.in-Some-pop_front.first _ was c.clear.ensures c.in-Some-pop_front.ensures.items in
    replied-late g.C.Catalogue.offers s held calls c.args.self.now _ past waiting h n p was q c.clear.ensures c.in-Some-pop_front.first _ c.in-Some-pop_front.ensures.items c.clear.ensures.0.0 wrote.1 (λ m apart. wrote.2 m (not-at n m apart)) refl refl w rest waits outcome c.args.out.now.items (c.args.out.now.items ++ reply_if [] (due_in c.args.self.now n) (told_in c.args.self.now n))
    (record { offer_is = h.rests.offer_is; idle = h.rests.idle; stands = h.rests.stands })
    (ap (λ (xs : List ℕ). c.args.out.now.items ++ xs) (due-reply [] (due_in c.args.self.now n) (told_in c.args.self.now n) c.in-Some-pop_front.first.asker outcome due told ∙ bare c.in-Some-pop_front.first.asker outcome))

pub returns : goal.returns
returns g c = record {
  sent =
      let put = un-put c.answer_with.result _ _ _ c.answer_with.ensures (λ is. c.in_default-answer_with.not-Answered is) in
      put.0 ∙ sym (append-nil c.args.out.now.items);
  late = λ s held calls past waiting outcome w rest h told waits.
      let n = c.args.number in
      let p = c.in-Some.parked.now in
      let q = c.clear.new.self in
      let was : parked_at c.args.self.now n ≡ Some p = grind (arith, common_steps) in
      let there : IsSome (get nat_cmp c.args.self.now.parked.requests n) = subst (λ (o : Option Parked). IsSome o) (sym was) refl in
      let wrote = (c.get_mut.follows.holds _).3 there in
      let same : performed_in c.in-Some-outcome.outcome ≡ outcome = (let both = sym (told-is c.args.self.now n p _ was (sym c.clear.ensures.0.1 ∙ c.in-Some-outcome.is)) ∙ told in cc) in
      let others : (q : ℕ) → (c.in-Some-pop_front.first.connection == q) ≡ false → get nat_cmp c.end_link.new.links q ≡ get nat_cmp c.args.self.now.links q = λ q n. grind (arith, common_steps) in
      let gone : get nat_cmp c.end_link.new.links c.in-Some-pop_front.first.connection ≡ None = c.end_link.ensures.gone in
      let rests = rests-lost g.C.Catalogue.offers (numbering s nothing_yet held) calls c.args.self.now _ past c.in-Some-pop_front.first.connection h.rests refl refl (record { limits = refl; capacity = refl; share = refl; greatest = refl; others = others }) refl refl gone in
      let put = un-put c.answer_with.result _ _ _ c.answer_with.ensures (λ is. c.in_default-answer_with.not-Answered is) in
      unreplied-late g.C.Catalogue.offers s held calls c.args.self.now _ past waiting h n p was q c.clear.ensures c.in-Some-pop_front.first _ c.in-Some-pop_front.ensures.items c.clear.ensures.0.0 wrote.1 (λ m apart. wrote.2 m (not-at n m apart)) refl refl w rest waits
      c.streams_are_heard.ensures.stays outcome c.args.out.now.items (c.args.out.now.items ++ []) rests (append-nil c.args.out.now.items) (subst (λ (o : Performed). 0 < length (reply_by c.in-Some-pop_front.first.asker.wish c.in-Some-pop_front.first.asker.version c.in-Some-pop_front.first.asker.request_id o)) same (some-plain (map item_at c.args.contexts.now) c.in-Some-pop_front.first.asker (performed_in c.in-Some-outcome.outcome) put.1));
  nothing = λ s held calls past waiting h none.
      let n = c.args.number in
      let p = c.in-Some.parked.now in
      let q = c.clear.new.self in
      let was : parked_at c.args.self.now n ≡ Some p = grind (arith, common_steps) in
      elim none [
        | inl untold ↦ absurd (let both = sym (told-is c.args.self.now n p _ was (sym c.clear.ensures.0.1 ∙ c.in-Some-outcome.is)) ∙ untold in cc)
        | inr nobody ↦ absurd (let both = sym nobody ∙ first-by g.C.Catalogue.offers s held calls c.args.self.now c.args.self.now past waiting h n p was q c.clear.ensures c.in-Some-pop_front.first _ c.in-Some-pop_front.ensures.items in cc)
      ];
  counts = refl;
  ended = tt;
  short = λ s held calls past waiting w rest h waits q.
      let n = c.args.number in
      let p = c.in-Some.parked.now in
      let was : parked_at c.args.self.now n ≡ Some p = grind (arith, common_steps) in
      let first = first-by g.C.Catalogue.offers s held calls c.args.self.now c.args.self.now past waiting h n p was c.clear.new.self c.clear.ensures c.in-Some-pop_front.first _ c.in-Some-pop_front.ensures.items in
      let same : c.in-Some-pop_front.first ≡ w = (let both = sym waits ∙ first in cc) in
      ap (λ (e : Option Ended). ending_of e q) c.end_link.ensures.last ∙ ap (λ (x : Waiter). cond (x.connection == q) (Some OutOfMemory) None) same;
  parked =
      let n = c.args.number in
      let p = c.in-Some.parked.now in
      let q = c.clear.new.self in
      let was : parked_at c.args.self.now n ≡ Some p = grind (arith, common_steps) in
      let there : IsSome (get nat_cmp c.args.self.now.parked.requests n) = subst (λ (o : Option Parked). IsSome o) (sym was) refl in
      let wrote = (c.get_mut.follows.holds _).3 there in
      parked-same (get nat_cmp c.args.self.now.parked.requests) _ n p _ was wrote.1 c.clear.ensures.0.0 c.clear.ensures.0.1 (λ m apart. wrote.2 m (not-at n m apart));
  fewer = λ told some.
      let n = c.args.number in
      let p = c.in-Some.parked.now in
      let q = c.clear.new.self in
      let was : parked_at c.args.self.now n ≡ Some p = grind (arith, common_steps) in
      let there : IsSome (get nat_cmp c.args.self.now.parked.requests n) = subst (λ (o : Option Parked). IsSome o) (sym was) refl in
      let wrote = (c.get_mut.follows.holds _).3 there in
      let few = c.clear.ensures.4 in
      let size = ap length c.in-Some-pop_front.ensures.items in
      left-fewer _ _ p _ was wrote.1 (omega (arith, few, size));
  waits = refl;
  asks = refl;
  catalogue = refl;
}

pub returns-in-Answered-clause-fewer : goal.returns-in-Answered-clause-fewer
returns-in-Answered-clause-fewer g c told some =
    let n = c.args.number in
    let p = c.in-Some.parked.now in
    let q = c.clear.new.self in
    let was : parked_at c.args.self.now n ≡ Some p = grind (arith, common_steps) in
    let there : IsSome (get nat_cmp c.args.self.now.parked.requests n) = subst (λ (o : Option Parked). IsSome o) (sym was) refl in
    let wrote = (c.get_mut.follows.holds _).3 there in
    let few = c.clear.ensures.4 in
    let size = ap length c.in-Some-pop_front.ensures.items in
    left-fewer _ _ p _ was wrote.1 (omega (arith, few, size))

pub returns-in-Answered-clause-parked : goal.returns-in-Answered-clause-parked
returns-in-Answered-clause-parked g c =
    let n = c.args.number in
    let p = c.in-Some.parked.now in
    let q = c.clear.new.self in
    let was : parked_at c.args.self.now n ≡ Some p = grind (arith, common_steps) in
    let there : IsSome (get nat_cmp c.args.self.now.parked.requests n) = subst (λ (o : Option Parked). IsSome o) (sym was) refl in
    let wrote = (c.get_mut.follows.holds _).3 there in
    parked-same (get nat_cmp c.args.self.now.parked.requests) _ n p _ was wrote.1 c.clear.ensures.0.0 c.clear.ensures.0.1 (λ m apart. wrote.2 m (not-at n m apart))

pub invariant_of-self-in_default-outcome : goal.invariant_of-self-in_default-outcome
invariant_of-self-in_default-outcome g c =
    let lot = c.args.self.now.parked in
    let was : parked_at c.args.self.now c.args.number ≡ Some c.in-Some.parked.now = grind (arith, common_steps) in
    ((few-written lot.requests (c.get_mut.follows.lender _) c.args.number _ (c.get_mut.follows.holds _) lot.few, (counted-written lot.requests (c.get_mut.follows.lender _) lot.counts c.args.number c.in-Some.parked.now _ (c.get_mut.follows.holds _) was c.clear.ensures.0.0 lot.counted, tt)), (c.args.self.now.ready, tt))

pub invariant_of-self-in_default-pop_front : goal.invariant_of-self-in_default-pop_front
invariant_of-self-in_default-pop_front g c =
    let lot = c.args.self.now.parked in
    let was : parked_at c.args.self.now c.args.number ≡ Some c.in-Some.parked.now = grind (arith, common_steps) in
    ((few-written lot.requests (c.get_mut.follows.lender _) c.args.number _ (c.get_mut.follows.holds _) lot.few, (counted-written lot.requests (c.get_mut.follows.lender _) lot.counts c.args.number c.in-Some.parked.now _ (c.get_mut.follows.holds _) was c.clear.ensures.0.0 lot.counted, tt)), (c.args.self.now.ready, tt))

pub invariant_of-self-2 : goal.invariant_of-self-2
invariant_of-self-2 g c =
    let lot = c.args.self.now.parked in
    let was : parked_at c.args.self.now c.args.number ≡ Some c.in-Some.parked.now = grind (arith, common_steps) in
    (few-written lot.requests (c.get_mut.follows.lender _) c.args.number _ (c.get_mut.follows.holds _) lot.few, (counted-written lot.requests (c.get_mut.follows.lender _) lot.counts c.args.number c.in-Some.parked.now _ (c.get_mut.follows.holds _) was c.clear.ensures.0.0 lot.counted, tt))

pub returns-in-Answered-clause-nothing : goal.returns-in-Answered-clause-nothing
returns-in-Answered-clause-nothing g c s held calls past waiting h none =
    let n = c.args.number in
    let p = c.in-Some.parked.now in
    let q = c.clear.new.self in
    let was : parked_at c.args.self.now n ≡ Some p = grind (arith, common_steps) in
    elim none [
      | inl untold ↦ absurd (let both = sym (told-is c.args.self.now n p _ was (sym c.clear.ensures.0.1 ∙ c.in-Some-outcome.is)) ∙ untold in cc)
      | inr nobody ↦ absurd (let both = sym nobody ∙ first-by g.C.Catalogue.offers s held calls c.args.self.now c.args.self.now past waiting h n p was q c.clear.ensures c.in-Some-pop_front.first _ c.in-Some-pop_front.ensures.items in cc)
    ]

pub returns-in_default-outcome-clause-nothing : goal.returns-in_default-outcome-clause-nothing
returns-in_default-outcome-clause-nothing g c s held calls past waiting h none =
    let n = c.args.number in
    let p = c.in-Some.parked.now in
    let was : parked_at c.args.self.now n ≡ Some p = grind (arith, common_steps) in
    let there : IsSome (get nat_cmp c.args.self.now.parked.requests n) = subst (λ (o : Option Parked). IsSome o) (sym was) refl in
    let wrote = (c.get_mut.follows.holds _).3 there in
    (refl, refl, cleared-late g.C.Catalogue.offers s held calls c.args.self.now _ past waiting h n p was (record { offer_is = h.rests.offer_is; idle = h.rests.idle; stands = h.rests.stands }) refl refl (λ m apart. wrote.2 m (not-at n m apart)) _ c.clear.ensures wrote.1)

pub returns-in-Answered-clause-sent : goal.returns-in-Answered-clause-sent
returns-in-Answered-clause-sent g c =
    let n = c.args.number in
    let p = c.in-Some.parked.now in
    let q = c.clear.new.self in
    let was : parked_at c.args.self.now n ≡ Some p = grind (arith, common_steps) in
    let due : due_in c.args.self.now n ≡ Some c.in-Some-pop_front.first.asker = due-first (going_in c.args.self.now.links) (parked_at c.args.self.now n) p q c.in-Some-pop_front.first _ was c.clear.ensures c.in-Some-pop_front.ensures.items in
    let told = told-is c.args.self.now n p _ was (sym c.clear.ensures.0.1 ∙ c.in-Some-outcome.is) in
    c.in-Answered.ensures ∙ ap (λ (xs : List ℕ). c.args.out.now.items ++ xs) (sym (due-reply (map item_at c.args.contexts.now) (due_in c.args.self.now n) (told_in c.args.self.now n) c.in-Some-pop_front.first.asker (performed_in c.in-Some-outcome.outcome) due told))

pub returns-in_default-pop_front-clause-sent : goal.returns-in_default-pop_front-clause-sent
returns-in_default-pop_front-clause-sent g c =
    let n = c.args.number in
    let p = c.in-Some.parked.now in
    let q = c.clear.new.self in
    let was : parked_at c.args.self.now n ≡ Some p = grind (arith, common_steps) in
    let empty : q.waiters.items ≡ [] = none-left q.waiters.items (let short = c.in_default-pop_front.not-Some in grind (arith, common_steps)) in
    unsent-nobody (map item_at c.args.contexts.now) (due_in c.args.self.now n) (told_in c.args.self.now n) c.args.out.now.items (due-none (going_in c.args.self.now.links) (parked_at c.args.self.now n) p q was c.clear.ensures empty)

pub answer_with-requires-clause-fits : goal.answer_with-requires-clause-fits
answer_with-requires-clause-fits g c =
    let n = c.args.number in
    let p = c.in-Some.parked.now in
    let q = c.clear.new.self in
    let was : parked_at c.args.self.now n ≡ Some p = grind (arith, common_steps) in
    let due : due_in c.args.self.now n ≡ Some c.in-Some-pop_front.first.asker = due-first (going_in c.args.self.now.links) (parked_at c.args.self.now n) p q c.in-Some-pop_front.first _ was c.clear.ensures c.in-Some-pop_front.ensures.items in
    let told = told-is c.args.self.now n p _ was (sym c.clear.ensures.0.1 ∙ c.in-Some-outcome.is) in
    carried-fits (map item_at c.args.contexts.now) (due_in c.args.self.now n) (told_in c.args.self.now n) c.in-Some-pop_front.first.asker (performed_in c.in-Some-outcome.outcome) due told c.requires.carries
