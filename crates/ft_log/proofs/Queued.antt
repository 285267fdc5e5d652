-- A queue some of whose dues are withdrawn: what it has once one comes, goes, or is withdrawn.
use Rattle.std.proofs.Common.{◌≡◌, ℕ, ◌+◌, ◌<◌, ◌≤◌, ◌==◌, ◌&&◌, Bool, true, false, not, cond, nat_lt, List, [], ◌∷◌, length, filter, slice_get, slice_index_or, Option, Some, None, is_some, IfSome, IfNone, Result, Ok, Err, IsOk, OnOk, option_map, unwrap_or, IsPermutation, refl, sym, ap, ◌∙◌, subst, true≢false, arith}
use Rattle.std.specs.List.{count_by, sum_by}
use Rattle.std.specs.Option.{option_map_or}
use Rattle.std.specs.Borrow.{Bor}
use Rattle.std.specs.BinaryHeap.{IsHeap, IsUpperBound}
use Rattle.std.specs.declared.cmp.Ordering.{Ordering}
use Rattle.std.proofs.lemmas.Bool.{and_parts, eqb-true, eq-eqb, lt-ltb}
use Rattle.std.proofs.lemmas.List.Filters.{length-filter_both, sum_by-filter_both}
use Rattle.std.proofs.lemmas.List.Sorted.{sum_by_popped}
use Rattle.std.proofs.lemmas.List.Sums.{length-filter, sum_by-cons, sum_by-le-sum_by}
use Rattle.std.proofs.lemmas.Option.{none-some, same_Some}
use Rattle.slab.specs.Slab.{Slab, Updates, get}
use Rattle.ft_log.specs.Keys.{RequestKey, same_key}
use Rattle.ft_log.specs.Places.{is_kept, place_in}
use Rattle.ft_log.specs.Queue.{IsOut}
use Rattle.ft_log.specs.View.{key_of}
use Rattle.ft_log.specs.declared.due.Due.{Due}
use Rattle.ft_log.proofs.Heaped.{Law, none_before}
use Rattle.ft_log.proofs.Listed.{same_is}

-- none of them passes: not the first, and none of the others
pub none_parts : {X : Type 0} (p : X → Bool) (x : X) (xs : List X) → count_by p (x ∷ xs) ≡ 0 → (p x ≡ false) × (count_by p xs ≡ 0)
none_parts {X} p x xs h = by (p x) refl
  where
    all : count_by p (x ∷ xs) ≡ cond (p x) 1 0 + count_by p xs
    all = sum_by-cons (λ z. cond (p z) 1 0) x xs

    by : (b : Bool) → p x ≡ b → (p x ≡ false) × (count_by p xs ≡ 0)
    by true e = let one : ◌≡◌ {A = ℕ} (cond (p x) 1 0) 1 = ap (λ b. cond b 1 0) e in absurd (omega (arith, h, all, one))
    by false e = (e, omega (arith, h, all))

pub not_not : (b : Bool) → not b ≡ false → b ≡ true
not_not true h = refl
not_not false h = absurd (true≢false h)

-- one of them that passes, and the others
pub record IsOne {X : Type 0} (p : X → Bool) (xs : List X) : Type 0 where
  pub it : X
  pub rest : List X
  pub passes : p it ≡ true
  pub sums : (f : X → ℕ) → sum_by f xs ≡ f it + sum_by f rest

pub one_of : {X : Type 0} (p : X → Bool) (xs : List X) → 0 < count_by p xs → IsOne p xs
one_of p [] h = absurd (omega (arith, h))
one_of {X} p (x ∷ xs) h = by (p x) refl (one_of p xs)
  where
    by : (b : Bool) → p x ≡ b → (0 < count_by p xs → IsOne p xs) → IsOne p (x ∷ xs)
    by true t more = record { it = x; rest = xs; passes = t; sums = λ f. sum_by-cons f x xs }
    by false t more =
        let all = sum_by-cons (λ z. cond (p z) 1 0) x xs in
        let none : ◌≡◌ {A = ℕ} (cond (p x) 1 0) 0 = ap (λ b. cond b 1 0) t in
        let later = more (omega (arith, h, all, none)) in
        record {
          it = later.it;
          rest = x ∷ later.rest;
          passes = later.passes;
          sums = λ f. let a = sum_by-cons f x xs in let z = sum_by-cons f x later.rest in omega (arith, a, z, later.sums f);
        }

-- sums over what passes
pub sum-filter : {X : Type 0} (p : X → Bool) (f : X → ℕ) (xs : List X) → sum_by f (filter p xs) ≡ sum_by (λ x. cond (p x) (f x) 0) xs
sum-filter p f [] = refl
sum-filter {X} p f (x ∷ xs) = by (p x) ∙ ap (λ n. cond (p x) (f x) 0 + n) (sum-filter p f xs) ∙ sym (sum_by-cons (λ z. cond (p z) (f z) 0) x xs)
  where
    by : (b : Bool) → sum_by f (cond b (x ∷ filter p xs) (filter p xs)) ≡ cond b (f x) 0 + sum_by f (filter p xs)
    by true = sum_by-cons f x (filter p xs)
    by false = omega arith

pub sum-same : {X : Type 0} (f g : X → ℕ) → ((x : X) → f x ≡ g x) → (xs : List X) → sum_by f xs ≡ sum_by g xs
sum-same f g e xs = ap (λ h. sum_by h xs) (λ i x. e x i)

less_and : (a b : Bool) → cond (a && b) 1 0 ≤ cond a 1 0
less_and true true = omega arith
less_and true false = omega arith
less_and false b = omega arith

counts_here : (b : Bool) → 0 < cond b 1 0 → b ≡ true
counts_here true h = refl
counts_here false h = absurd (omega (arith, h))

pub fewer_kept : {X : Type 0} (p q : X → Bool) (xs : List X) → count_by q (filter p xs) ≤ count_by q xs
fewer_kept p q xs = omega (arith, sum_by-filter_both p (λ x. not (p x)) (λ _. refl) (λ x. cond (q x) 1 0) xs)

pub kept_many : (P : Slab (Option ℕ)) (ds : List Due) → length (filter (is_kept P) ds) + count_by (λ d. not (is_kept P d)) ds ≡ length ds
kept_many P ds =
    let both = length-filter_both (is_kept P) (λ d. not (is_kept P d)) (λ _. refl) ds in
    let others = length-filter (λ d. not (is_kept P d)) ds in
    omega (arith, both, others)

-- sums that differ at one slot only, where none has it
pub sum-apart : (slot : ℕ) (f g : Due → ℕ) → ((d : Due) → (d.slot == slot) ≡ false → f d ≡ g d) → (ds : List Due) → count_by (λ d. d.slot == slot) ds ≡ 0 → sum_by f ds ≡ sum_by g ds
sum-apart slot f g e [] h = refl
sum-apart slot f g e (d ∷ ds) h =
    let parts = none_parts (λ (z : Due). z.slot == slot) d ds h in
    let here = e d parts.0 in
    let a = sum_by-cons f d ds in
    let z = sum_by-cons g d ds in
    omega (arith, here, a, z, sum-apart slot f g e ds parts.1)

-- where none is withdrawn, the first is not
pub topped_of : (P : Slab (Option ℕ)) (ds : List Due) → count_by (λ d. not (is_kept P d)) ds ≡ 0 → option_map_or (is_kept P) (slice_get ds 0) true ≡ true
topped_of P [] h = refl
topped_of P (d ∷ ds) h = not_not (is_kept P d) (none_parts (λ z. not (is_kept P z)) d ds h).0

-- none lies before the first
pub before_first : (cmp : Due → Due → Ordering) → Law cmp → (P : Slab (Option ℕ)) (r : Option (Bor Due)) (ds : List Due) → IsHeap cmp ds → IfSome r (λ x. IsHeap cmp ds → IsUpperBound cmp x.now ds)
    → IfSome r (λ x. count_by (λ d. nat_lt d.until.0 x.now.until.0) (filter (is_kept P) ds) ≡ 0)
before_first cmp law P None ds heap h = tt
before_first cmp law P (Some x) ds heap h =
    let all = none_before cmp law x.now ds (h heap) in
    let some = fewer_kept (is_kept P) (λ (d : Due). nat_lt d.until.0 x.now.until.0) ds in
    omega (arith, all, some)

-- each slot is of one due, where it has something
abbrev pub AreApart : Slab (Option ℕ) → List Due → Type 0
AreApart P ds = (slot : ℕ) → count_by (λ d. d.slot == slot) ds ≡ cond (is_some (get P slot)) 1 0

some_of : (o : Option (Option ℕ)) → is_some (unwrap_or o None) ≡ true → is_some o ≡ true
some_of None h = absurd (true≢false (sym h))
some_of (Some o) h = refl

-- something else is under one slot
module _ (P Q : Slab (Option ℕ)) (slot : ℕ) (o : Option (Option ℕ)) (up : Updates P Q slot o) where
  pub kept_other : (d : Due) → (d.slot == slot) ≡ false → is_kept Q d ≡ is_kept P d
  kept_other d h = ap (λ o. is_some (unwrap_or o None)) (up.others d.slot (λ e. true≢false (sym (eq-eqb d.slot slot e) ∙ h)))

  kept_here : (d : Due) → (d.slot == slot) ≡ true → is_kept Q d ≡ is_some (unwrap_or o None)
  kept_here d h = ap (λ o. is_some (unwrap_or o None)) (ap (get Q) (eqb-true d.slot slot h) ∙ up.changed)

  -- sums over others
  pub kept_sum : (f : Due → ℕ) (ds : List Due) → count_by (λ d. d.slot == slot) ds ≡ 0 → sum_by (λ d. cond (is_kept Q d) (f d) 0) ds ≡ sum_by (λ d. cond (is_kept P d) (f d) 0) ds
  kept_sum f ds h = sum-apart slot (λ d. cond (is_kept Q d) (f d) 0) (λ d. cond (is_kept P d) (f d) 0) (λ d e. ap (λ b. cond b (f d) 0) (kept_other d e)) ds h

  pub gone_sum : (ds : List Due) → count_by (λ d. d.slot == slot) ds ≡ 0 → count_by (λ d. not (is_kept Q d)) ds ≡ count_by (λ d. not (is_kept P d)) ds
  gone_sum ds h = sum-apart slot (λ d. cond (not (is_kept Q d)) 1 0) (λ d. cond (not (is_kept P d)) 1 0) (λ d e. ap (λ b. cond (not b) 1 0) (kept_other d e)) ds h

  other_slot : (q : ℕ) → (slot == q) ≡ false → is_some (get Q q) ≡ is_some (get P q)
  other_slot q h = ap is_some (up.others q (λ e. true≢false (sym (eq-eqb slot q (sym e)) ∙ h)))

  -- a due came for it
  module _ (due : Due) (at : (due.slot == slot) ≡ true) (xs ys : List Due) (sums : (f : Due → ℕ) → sum_by f ys ≡ f due + sum_by f xs) (apart : AreApart P xs) (was : get P slot ≡ None) where
    fresh : count_by (λ d. d.slot == slot) xs ≡ 0
    fresh = apart slot ∙ ap (λ o. cond (is_some o) 1 0) was

    pub apart-came : is_some o ≡ true → AreApart Q ys
    apart-came is q = elim (slot == q) as (λ b. (slot == q) ≡ b → count_by (λ d. d.slot == q) ys ≡ cond (is_some (get Q q)) 1 0) [
      | true ↦ λ t.
          let same = eqb-true slot q t in
          let here : ◌≡◌ {A = ℕ} (cond (due.slot == q) 1 0) 1 = ap (λ n. cond (due.slot == n) 1 0) (sym same) ∙ ap (λ b. cond b 1 0) at in
          let none : count_by (λ d. d.slot == q) xs ≡ 0 = ap (λ n. count_by (λ (d : Due). d.slot == n) xs) (sym same) ∙ fresh in
          let now : ◌≡◌ {A = ℕ} (cond (is_some (get Q q)) 1 0) 1 = ap (λ n. cond (is_some (get Q n)) 1 0) (sym same) ∙ ap (λ o. cond (is_some o) 1 0) up.changed ∙ ap (λ b. cond b 1 0) is in
          omega (arith, sums (λ d. cond (d.slot == q) 1 0), here, none, now)
      | false ↦ λ t.
          let not_here : ◌≡◌ {A = ℕ} (cond (due.slot == q) 1 0) 0 = ap (λ n. cond (n == q) 1 0) (eqb-true due.slot slot at) ∙ ap (λ b. cond b 1 0) t in
          let now : ◌≡◌ {A = ℕ} (cond (is_some (get Q q)) 1 0) (cond (is_some (get P q)) 1 0) = ap (λ b. cond b 1 0) (other_slot q t) in
          omega (arith, sums (λ d. cond (d.slot == q) 1 0), not_here, now, apart q)
    ] refl

    pub counted-came : is_some (unwrap_or o None) ≡ true → count_by (λ d. not (is_kept Q d)) ys ≡ count_by (λ d. not (is_kept P d)) xs
    counted-came is =
        let here : ◌≡◌ {A = ℕ} (cond (not (is_kept Q due)) 1 0) 0 = ap (λ b. cond (not b) 1 0) (kept_here due at ∙ is) in
        omega (arith, here, sums (λ d. cond (not (is_kept Q d)) 1 0), gone_sum xs fresh)

    pub sums-came : is_some (unwrap_or o None) ≡ true → (f : Due → ℕ) → sum_by f (filter (is_kept Q) ys) ≡ f due + sum_by f (filter (is_kept P) xs)
    sums-came is f =
        let here : ◌≡◌ {A = ℕ} (cond (is_kept Q due) (f due) 0) (f due) = ap (λ b. cond b (f due) 0) (kept_here due at ∙ is) in
        omega (arith, here, sums (λ d. cond (is_kept Q d) (f d) 0), kept_sum f xs fresh, sum-filter (is_kept Q) f ys, sum-filter (is_kept P) f xs)

  -- one went
  module _ (due : Due) (at : (due.slot == slot) ≡ true) (xs ys : List Due) (sums : (f : Due → ℕ) → sum_by f ys + f due ≡ sum_by f xs) (apart : AreApart P xs) where
    there : ◌≡◌ {A = ℕ} (cond (due.slot == slot) 1 0) 1
    there = ap (λ b. cond b 1 0) at

    at_most_one : (b : Bool) → cond b 1 0 ≤ 1
    at_most_one true = omega arith
    at_most_one false = omega arith

    left : count_by (λ d. d.slot == slot) ys ≡ 0
    left = omega (arith, there, sums (λ d. cond (d.slot == slot) 1 0), apart slot, at_most_one (is_some (get P slot)))

    pub apart-went : is_some o ≡ false → AreApart Q ys
    apart-went is q = elim (slot == q) as (λ b. (slot == q) ≡ b → count_by (λ d. d.slot == q) ys ≡ cond (is_some (get Q q)) 1 0) [
      | true ↦ λ t.
          let same = eqb-true slot q t in
          let none : count_by (λ d. d.slot == q) ys ≡ 0 = ap (λ n. count_by (λ (d : Due). d.slot == n) ys) (sym same) ∙ left in
          let now : ◌≡◌ {A = ℕ} (cond (is_some (get Q q)) 1 0) 0 = ap (λ n. cond (is_some (get Q n)) 1 0) (sym same) ∙ ap (λ o. cond (is_some o) 1 0) up.changed ∙ ap (λ b. cond b 1 0) is in
          omega (arith, none, now)
      | false ↦ λ t.
          let not_here : ◌≡◌ {A = ℕ} (cond (due.slot == q) 1 0) 0 = ap (λ n. cond (n == q) 1 0) (eqb-true due.slot slot at) ∙ ap (λ b. cond b 1 0) t in
          let now : ◌≡◌ {A = ℕ} (cond (is_some (get Q q)) 1 0) (cond (is_some (get P q)) 1 0) = ap (λ b. cond b 1 0) (other_slot q t) in
          omega (arith, sums (λ d. cond (d.slot == q) 1 0), not_here, now, apart q)
    ] refl

    -- .. which was withdrawn
    module _ (was : is_kept P due ≡ false) where
      pub counted-went : count_by (λ d. not (is_kept Q d)) ys + 1 ≡ count_by (λ d. not (is_kept P d)) xs
      counted-went =
          let here : ◌≡◌ {A = ℕ} (cond (not (is_kept P due)) 1 0) 1 = ap (λ b. cond (not b) 1 0) was in
          omega (arith, here, sums (λ d. cond (not (is_kept P d)) 1 0), gone_sum ys left)

      pub sums-went : (f : Due → ℕ) → sum_by f (filter (is_kept Q) ys) ≡ sum_by f (filter (is_kept P) xs)
      sums-went f =
          let here : ◌≡◌ {A = ℕ} (cond (is_kept P due) (f due) 0) 0 = ap (λ b. cond b (f due) 0) was in
          omega (arith, here, sums (λ d. cond (is_kept P d) (f d) 0), kept_sum f ys left, sum-filter (is_kept Q) f ys, sum-filter (is_kept P) f xs)

    -- .. which was kept
    module _ (was : is_kept P due ≡ true) where
      pub counted-taken : count_by (λ d. not (is_kept Q d)) ys ≡ count_by (λ d. not (is_kept P d)) xs
      counted-taken =
          let here : ◌≡◌ {A = ℕ} (cond (not (is_kept P due)) 1 0) 0 = ap (λ b. cond (not b) 1 0) was in
          omega (arith, here, sums (λ d. cond (not (is_kept P d)) 1 0), gone_sum ys left)

      sums-taken : (f : Due → ℕ) → sum_by f (filter (is_kept Q) ys) + f due ≡ sum_by f (filter (is_kept P) xs)
      sums-taken f =
          let here : ◌≡◌ {A = ℕ} (cond (is_kept P due) (f due) 0) (f due) = ap (λ b. cond b (f due) 0) was in
          omega (arith, here, sums (λ d. cond (is_kept P d) (f d) 0), kept_sum f ys left, sum-filter (is_kept Q) f ys, sum-filter (is_kept P) f xs)

      -- it has the key, since no other has the slot
      pub out-taken : (key : RequestKey) → 0 < count_by (λ d. d.slot == slot && same_key (key_of d.key.key) key) (filter (is_kept P) xs) → IsOut key (filter (is_kept P) xs) (filter (is_kept Q) ys)
      out-taken key h =
          let p : Due → Bool = λ d. d.slot == slot && same_key (key_of d.key.key) key in
          let few = sum_by-le-sum_by (λ (d : Due). cond (p d) 1 0) (λ (d : Due). cond (d.slot == slot) 1 0) ys (λ d. less_and (d.slot == slot) (same_key (key_of d.key.key) key)) in
          let is = counts_here (p due) (omega (arith, h, few, left, fewer_kept (is_kept P) p xs, sums (λ d. cond (p d) 1 0))) in
          record { due = due; of_key = same_is (key_of due.key.key) key (and_parts (due.slot == slot) (same_key (key_of due.key.key) key) is).1; sums = sums-taken }

  -- one that was kept is withdrawn
  module _ (ds : List Due) (apart : AreApart P ds) (place : is_some (unwrap_or (get P slot) None) ≡ true) (some : is_some o ≡ true) (gone : is_some (unwrap_or o None) ≡ false) where
    pub apart-withdrawn : AreApart Q ds
    apart-withdrawn q = apart q ∙ ap (λ b. cond b 1 0) (elim (slot == q) as (λ b. (slot == q) ≡ b → is_some (get P q) ≡ is_some (get Q q)) [
      | true ↦ λ t. ap (λ n. is_some (get P n)) (sym (eqb-true slot q t)) ∙ some_of (get P slot) place ∙ sym some ∙ sym (ap is_some up.changed) ∙ ap (λ n. is_some (get Q n)) (eqb-true slot q t)
      | false ↦ λ t. sym (other_slot q t)
    ] refl)

    has : count_by (λ d. d.slot == slot) ds ≡ 1
    has = apart slot ∙ ap (λ b. cond b 1 0) (some_of (get P slot) place)

    -- that with its slot, and the others
    module _ (p : Due → Bool) (at : (d : Due) → p d ≡ true → (d.slot == slot) ≡ true) (one : IsOne p ds) where
      others : count_by (λ d. d.slot == slot) one.rest ≡ 0
      others =
          let here : ◌≡◌ {A = ℕ} (cond (one.it.slot == slot) 1 0) 1 = ap (λ b. cond b 1 0) (at one.it one.passes) in
          omega (arith, here, has, one.sums (λ d. cond (d.slot == slot) 1 0))

      was_kept : is_kept P one.it ≡ true
      was_kept = ap (λ n. is_some (unwrap_or (get P n) None)) (eqb-true one.it.slot slot (at one.it one.passes)) ∙ place

      is_gone : is_kept Q one.it ≡ false
      is_gone = kept_here one.it (at one.it one.passes) ∙ gone

      pub counted-one : count_by (λ d. not (is_kept Q d)) ds ≡ count_by (λ d. not (is_kept P d)) ds + 1
      counted-one =
          let before : ◌≡◌ {A = ℕ} (cond (not (is_kept P one.it)) 1 0) 0 = ap (λ b. cond (not b) 1 0) was_kept in
          let after : ◌≡◌ {A = ℕ} (cond (not (is_kept Q one.it)) 1 0) 1 = ap (λ b. cond (not b) 1 0) is_gone in
          omega (arith, before, after, one.sums (λ d. cond (not (is_kept P d)) 1 0), one.sums (λ d. cond (not (is_kept Q d)) 1 0), gone_sum one.rest others)

      pub sums-one : (f : Due → ℕ) → sum_by f (filter (is_kept Q) ds) + f one.it ≡ sum_by f (filter (is_kept P) ds)
      sums-one f =
          let before : ◌≡◌ {A = ℕ} (cond (is_kept P one.it) (f one.it) 0) (f one.it) = ap (λ b. cond b (f one.it) 0) was_kept in
          let after : ◌≡◌ {A = ℕ} (cond (is_kept Q one.it) (f one.it) 0) 0 = ap (λ b. cond b (f one.it) 0) is_gone in
          omega (arith, before, after, one.sums (λ d. cond (is_kept P d) (f d) 0), one.sums (λ d. cond (is_kept Q d) (f d) 0), kept_sum f one.rest others, sum-filter (is_kept Q) f ds, sum-filter (is_kept P) f ds)

    pub counted-withdrawn : count_by (λ d. not (is_kept Q d)) ds ≡ count_by (λ d. not (is_kept P d)) ds + 1
    counted-withdrawn = counted-one (λ d. d.slot == slot) (λ d h. h) (one_of (λ d. d.slot == slot) ds (omega (arith, has)))

    pub out-withdrawn : (key : RequestKey) → 0 < count_by (λ d. d.slot == slot && same_key (key_of d.key.key) key) (filter (is_kept P) ds) → IsOut key (filter (is_kept P) ds) (filter (is_kept Q) ds)
    out-withdrawn key h =
        let p : Due → Bool = λ d. d.slot == slot && same_key (key_of d.key.key) key in
        let one = one_of p ds (omega (arith, h, fewer_kept (is_kept P) p ds)) in
        record {
          due = one.it;
          of_key = same_is (key_of one.it.key.key) key (and_parts (one.it.slot == slot) (same_key (key_of one.it.key.key) key) one.passes).1;
          sums = sums-one p (λ d t. (and_parts (d.slot == slot) (same_key (key_of d.key.key) key) t).0) one;
        }

-- what is popped is the first
pub record IsPopped (slot : ℕ) (xs ys : List Due) : Type 0 where
  pub due : Due
  pub at : (due.slot == slot) ≡ true
  pub sums : (f : Due → ℕ) → sum_by f ys + f due ≡ sum_by f xs

pub popped_first : (r : Option Due) (slot : ℕ) (xs ys : List Due) → option_map (λ d. d.slot) (slice_get xs 0) ≡ Some slot → (0 < length xs → is_some r ≡ true) → IfSome r (λ x. x ≡ slice_index_or xs 0 x)
    → IfSome r (λ x. IsPermutation xs (x ∷ ys)) → IsPopped slot xs ys
popped_first r slot [] ys first some top perm = absurd (none-some slot first)
popped_first None slot (d ∷ xs) ys first some top perm = absurd (true≢false (sym (some (omega arith))))
popped_first (Some x) slot (d ∷ xs) ys first some top perm =
    record { due = x; at = eq-eqb x.slot slot (ap (λ (z : Due). z.slot) top ∙ same_Some d.slot slot first); sums = λ f. sum_by_popped f x (d ∷ xs) ys perm }

pub gone_at : (P : Slab (Option ℕ)) (due : Due) (slot : ℕ) → (due.slot == slot) ≡ true → place_in P slot ≡ None → is_kept P due ≡ false
gone_at P due slot at h = ap (λ n. is_some (place_in P n)) (eqb-true due.slot slot at) ∙ ap is_some h

pub kept_at : (P : Slab (Option ℕ)) (due : Due) (slot : ℕ) → (due.slot == slot) ≡ true → is_some (place_in P slot) ≡ true → is_kept P due ≡ true
kept_at P due slot at h = ap (λ n. is_some (place_in P n)) (eqb-true due.slot slot at) ∙ h

-- where the freed slots are looked up, and only what is kept stays
pub freed_place : (P Q : Slab (Option ℕ)) (b : ℕ → Bool) → ((slot : ℕ) → get Q slot ≡ cond (b slot) (option_map Some (place_in P slot)) (get P slot)) → (slot : ℕ) → place_in Q slot ≡ place_in P slot
freed_place P Q b is slot = ap (λ o. unwrap_or o None) (is slot) ∙ by (b slot) (get P slot)
  where
    by : (c : Bool) (o : Option (Option ℕ)) → unwrap_or (cond c (option_map (λ (x : ℕ). Some x) (unwrap_or o None)) o) None ≡ unwrap_or o None
    by true None = refl
    by true (Some None) = refl
    by true (Some (Some x)) = refl
    by false o = refl

module _ (P Q : Slab (Option ℕ)) (xs ys : List Due) (same : (slot : ℕ) → place_in Q slot ≡ place_in P slot) (sums : (f : Due → ℕ) → sum_by f ys ≡ sum_by f (filter (is_kept P) xs)) where
  kept_as : (d : Due) → is_kept Q d ≡ is_kept P d
  kept_as d = ap is_some (same d.slot)

  pub counted-compact : count_by (λ d. not (is_kept Q d)) ys ≡ 0
  counted-compact =
      sums (λ d. cond (not (is_kept Q d)) 1 0) ∙ sum-filter (is_kept P) (λ d. cond (not (is_kept Q d)) 1 0) xs
      ∙ sum-same (λ d. cond (is_kept P d) (cond (not (is_kept Q d)) 1 0) 0) (λ d. 0) (λ d. ap (λ b. cond (is_kept P d) (cond (not b) 1 0) 0) (kept_as d) ∙ none (is_kept P d)) xs ∙ zeros xs
    where
      none : (b : Bool) → ◌≡◌ {A = ℕ} (cond b (cond (not b) 1 0) 0) 0
      none true = refl
      none false = refl

      zeros : (ds : List Due) → sum_by (λ d. 0) ds ≡ 0
      zeros [] = refl
      zeros (d ∷ ds) = let all = sum_by-cons (λ (d : Due). 0) d ds in omega (arith, all, zeros ds)

  pub sums-compact : (f : Due → ℕ) → sum_by f (filter (is_kept Q) ys) ≡ sum_by f (filter (is_kept P) xs)
  sums-compact f =
      sum-filter (is_kept Q) f ys ∙ sums (λ d. cond (is_kept Q d) (f d) 0) ∙ sum-filter (is_kept P) (λ d. cond (is_kept Q d) (f d) 0) xs
      ∙ sum-same (λ d. cond (is_kept P d) (cond (is_kept Q d) (f d) 0) 0) (λ d. cond (is_kept P d) (f d) 0) (λ d. ap (λ b. cond (is_kept P d) (cond b (f d) 0) 0) (kept_as d) ∙ twice (is_kept P d) (f d)) xs ∙ sym (sum-filter (is_kept P) f xs)
    where
      twice : (b : Bool) (n : ℕ) → ◌≡◌ {A = ℕ} (cond b (cond b n 0) 0) (cond b n 0)
      twice true n = refl
      twice false n = refl

  pub apart-compact : AreApart P xs → ((slot : ℕ) → get Q slot ≡ cond (nat_lt 0 (count_by (λ d. d.slot == slot) xs)) (option_map Some (place_in P slot)) (get P slot)) → AreApart Q ys
  apart-compact apart is q =
      sums (λ d. cond (d.slot == q) 1 0) ∙ sum-filter (is_kept P) (λ d. cond (d.slot == q) 1 0) xs
      ∙ sum-same (λ d. cond (is_kept P d) (cond (d.slot == q) 1 0) 0) (λ d. cond (d.slot == q) (cond (is_some (place_in P q)) 1 0) 0) one xs
      ∙ scaled (is_some (place_in P q)) xs ∙ ends (get P q) (count_by (λ d. d.slot == q) xs) (apart q) ∙ sym (ap (λ o. cond (is_some o) 1 0) (is q))
    where
      one : (d : Due) → ◌≡◌ {A = ℕ} (cond (is_kept P d) (cond (d.slot == q) 1 0) 0) (cond (d.slot == q) (cond (is_some (place_in P q)) 1 0) 0)
      one d = elim (d.slot == q) as (λ b. (d.slot == q) ≡ b → ◌≡◌ {A = ℕ} (cond (is_kept P d) (cond b 1 0) 0) (cond b (cond (is_some (place_in P q)) 1 0) 0)) [
        | true ↦ λ t. ap (λ n. cond (is_some (place_in P n)) 1 0) (eqb-true d.slot q t)
        | false ↦ λ t. (elim (is_kept P d) as (λ (b : Bool). ◌≡◌ {A = ℕ} (cond b 0 0) 0) [ true ↦ refl | false ↦ refl ])
      ] refl

      scaled : (b : Bool) (ds : List Due) → sum_by (λ d. cond (d.slot == q) (cond b 1 0) 0) ds ≡ cond b (count_by (λ d. d.slot == q) ds) 0
      scaled true ds = refl
      scaled false [] = refl
      scaled false (d ∷ ds) =
          let all = sum_by-cons (λ (d : Due). cond (d.slot == q) (cond false 1 0) 0) d ds in
          let here : ◌≡◌ {A = ℕ} (cond (d.slot == q) 0 0) 0 = (elim (d.slot == q) as (λ (b : Bool). ◌≡◌ {A = ℕ} (cond b 0 0) 0) [ true ↦ refl | false ↦ refl ]) in
          omega (arith, all, here, scaled false ds)

      ends : (o : Option (Option ℕ)) (n : ℕ) → n ≡ cond (is_some o) 1 0 → cond (is_some (unwrap_or o None)) n 0 ≡ cond (is_some (cond (nat_lt 0 n) (option_map (λ (x : ℕ). Some x) (unwrap_or o None)) o)) 1 0
      ends None n e = subst (λ (n : ℕ). ◌≡◌ {A = ℕ} 0 (cond (is_some (cond (nat_lt 0 n) (option_map (λ (x : ℕ). Some x) None) None)) 1 0)) (sym e) refl
      ends (Some None) n e = subst (λ (n : ℕ). ◌≡◌ {A = ℕ} 0 (cond (is_some (cond (nat_lt 0 n) (option_map (λ (x : ℕ). Some x) None) (Some None))) 1 0)) (sym e) refl
      ends (Some (Some x)) n e = subst (λ (n : ℕ). n ≡ cond (is_some (cond (nat_lt 0 n) (option_map (λ (x : ℕ). Some x) (Some x)) (Some (Some x)))) 1 0) (sym e) refl

pub got : {A E P : Type 0} (r : Result A E) → IsOk r → OnOk r P → P
got (Ok x) is h = h
got (Err e) is h = absurd (let no : false ≡ true = is in cc)

pub on_ok : {A E P Q : Type 0} (r : Result A E) → (P → Q) → OnOk r P → OnOk r Q
on_ok (Ok x) f h = f h
on_ok (Err e) f h = tt

-- room in both
pub fits_parts : (b : Bool) (n m : ℕ) → n < cond b m 0 → (n < m) × (b ≡ true)
fits_parts true n m h = (h, refl)
fits_parts false n m h = absurd (omega (arith, h))

pub fits_from : (b : Bool) (n m : ℕ) → b ≡ true → n < m → n < cond b m 0
fits_from true n m t h = h
fits_from false n m t h = absurd (true≢false (sym t))

-- what the first says
pub there_first : (ds : List Due) (d : Due) → Some d ≡ slice_get ds 0 → 0 < count_by (λ x. x.until.0 == d.until.0) ds
there_first [] d h = absurd (none-some d (sym h))
there_first (e ∷ ds) d h =
    let all = sum_by-cons (λ (x : Due). cond (x.until.0 == d.until.0) 1 0) e ds in
    let here : ◌≡◌ {A = ℕ} (cond (e.until.0 == d.until.0) 1 0) 1 = ap (λ b. cond b 1 0) (eq-eqb e.until.0 d.until.0 (ap (λ (x : Due). x.until.0) (sym (same_Some d e h)))) in
    omega (arith, all, here)

pub none_first : (ds : List Due) → None ≡ slice_get ds 0 → ds ≡ []
none_first [] h = refl
none_first (e ∷ ds) h = absurd (none-some e h)

-- the slots that are seen so far are free, where nothing is kept under them
abbrev pub AreFreed : Slab (Option ℕ) → (ℕ → ℕ) → Slab (Option ℕ) → Type 0
AreFreed P seen N = (slot : ℕ) → get N slot ≡ cond (nat_lt 0 (seen slot)) (option_map Some (place_in P slot)) (get P slot)

pub free_step : (P N M : Slab (Option ℕ)) (slot : ℕ) (seen more : ℕ → ℕ) → AreFreed P seen N → ((q : ℕ) → more q ≡ seen q + cond (slot == q) 1 0) → get M slot ≡ option_map Some (place_in P slot)
    → ((q : ℕ) → (slot == q) ≡ false → get M q ≡ get N q) → AreFreed P more M
free_step P N M slot seen more freed one here others q = elim (slot == q) as (λ b. (slot == q) ≡ b → get M q ≡ cond (nat_lt 0 (more q)) (option_map Some (place_in P q)) (get P q)) [
  | true ↦ λ t.
      let some : nat_lt 0 (more q) ≡ true = lt-ltb 0 (more q) (let has : ◌≡◌ {A = ℕ} (cond (slot == q) 1 0) 1 = ap (λ b. cond b 1 0) t in omega (arith, one q, has)) in
      let same = eqb-true slot q t in
      ap (get M) (sym same) ∙ here ∙ ap (λ n. option_map Some (place_in P n)) same ∙ sym (ap (λ b. cond b (option_map Some (place_in P q)) (get P q)) some)
  | false ↦ λ t.
      let none : more q ≡ seen q = (let has : ◌≡◌ {A = ℕ} (cond (slot == q) 1 0) 0 = ap (λ b. cond b 1 0) t in omega (arith, one q, has)) in
      others q t ∙ freed q ∙ ap (λ n. cond (nat_lt 0 n) (option_map Some (place_in P q)) (get P q)) (sym none)
] refl

pub place_freed : (P N : Slab (Option ℕ)) (seen : ℕ → ℕ) → AreFreed P seen N → (slot : ℕ) → place_in N slot ≡ place_in P slot
place_freed P N seen freed slot = freed_place P N (λ s. nat_lt 0 (seen s)) freed slot

-- what is kept under a slot
pub slot_kept : (o : Option (Option ℕ)) → is_some (unwrap_or o None) ≡ true → o ≡ option_map Some (unwrap_or o None)
slot_kept None h = absurd (true≢false (sym h))
slot_kept (Some None) h = absurd (true≢false (sym h))
slot_kept (Some (Some x)) h = refl

pub if_none : {X P : Type 0} (r : Option X) → P → IfNone r P
if_none None h = h
if_none (Some x) h = tt

-- the first of what is kept
pub first_kept : (P : Slab (Option ℕ)) (ds : List Due) (d : Due) → Some d ≡ slice_get (filter (is_kept P) ds) 0 → is_kept P d ≡ true
first_kept P [] d h = absurd (none-some d (sym h))
first_kept P (e ∷ ds) d h = by (is_kept P e) refl h (first_kept P ds d)
  where
    by : (b : Bool) → is_kept P e ≡ b → Some d ≡ slice_get (cond b (e ∷ filter (is_kept P) ds) (filter (is_kept P) ds)) 0 → (Some d ≡ slice_get (filter (is_kept P) ds) 0 → is_kept P d ≡ true) → is_kept P d ≡ true
    by true t is more = ap (is_kept P) (same_Some d e is) ∙ t
    by false t is more = more is

pub rest_of : (ds : List Due) (d : Due) → Some d ≡ slice_get ds 0 → (rest : List Due) × (ds ≡ d ∷ rest)
rest_of [] d h = absurd (none-some d (sym h))
rest_of (e ∷ ds) d h = (ds, ap (λ (x : Due). x ∷ ds) (sym (same_Some d e h)))
