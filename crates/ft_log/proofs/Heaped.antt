-- An order of expirations: what its top says of all.
use Rattle.std.proofs.Common.{◌≡◌, ℕ, ◌+◌, ◌<◌, ◌≤◌, Bool, true, false, cond, nat_lt, ◌==◌, List, [], ◌∷◌, Option, Some, None, IfSome, IsPermutation, refl, sym, ap, ◌∙◌, arith}
use Rattle.std.specs.List.{count_by, sum_by}
use Rattle.std.specs.Ordering.{is_lt, nat_cmp}
use Rattle.std.specs.BinaryHeap.{IsHeap, IsUpperBound, PopsGreatest}
use Rattle.std.specs.declared.cmp.Ordering.{Ordering}
use Rattle.std.proofs.lemmas.Bool.{ltb-true, ltb-false, eqb-true}
use Rattle.std.proofs.lemmas.List.Sums.{sum_by-cons, sum_by-le-sum_by}
use Rattle.std.proofs.lemmas.List.Sorted.{sum_by_popped}
use Rattle.ft_log.specs.declared.due.Due.{Due}

-- the test by which a heap of `Due` is kept
abbrev pub Law : (Due → Due → Ordering) → Type 0
Law cmp = (x y : Due) → cmp x y ≡ nat_cmp y.until.0 x.until.0

-- none of them lies before this
abbrev pub NoneBefore : ℕ → List Due → Type 0
NoneBefore t ds = count_by (λ d. nat_lt d.until.0 t) ds ≡ 0

pub none_before : (cmp : Due → Due → Ordering) → Law cmp → (x : Due) (ds : List Due) → IsUpperBound cmp x ds → NoneBefore x.until.0 ds
none_before cmp law x [] h = refl
none_before cmp law x (d ∷ ds) h =
    let here : is_lt (nat_cmp d.until.0 x.until.0) ≡ false = ap is_lt (sym (law x d)) ∙ h.0 in
    let later = none_before cmp law x ds h.1 in
    let not : nat_lt d.until.0 x.until.0 ≡ false = grind (arith, here) in
    let all = sum_by-cons (λ (z : Due). cond (nat_lt z.until.0 x.until.0) 1 0) d ds in
    all ∙ (λ i. cond (not i) 1 0 + later i)

less_often : (s t : ℕ) → t ≤ s → (d : Due) → cond (nat_lt d.until.0 t) 1 0 ≤ cond (nat_lt d.until.0 s) 1 0
less_often s t le d = by (nat_lt d.until.0 t) (nat_lt d.until.0 s) refl refl
  where
    by : (a b : Bool) → nat_lt d.until.0 t ≡ a → nat_lt d.until.0 s ≡ b → cond a 1 0 ≤ cond b 1 0
    by true true e f = omega arith
    by true false e f = absurd (omega (arith, ltb-true _ _ e, ltb-false _ _ f))
    by false b e f = omega arith

-- nor before what is earlier
pub none_earlier : (s t : ℕ) (ds : List Due) → t ≤ s → NoneBefore s ds → NoneBefore t ds
none_earlier s t ds le h = omega (arith, h, sum_by-le-sum_by (λ (d : Due). cond (nat_lt d.until.0 t) 1 0) (λ (d : Due). cond (nat_lt d.until.0 s) 1 0) ds (less_often s t le))

at_or_below : (s t : ℕ) → s < t → (d : Due) → cond (d.until.0 == s) 1 0 ≤ cond (nat_lt d.until.0 t) 1 0
at_or_below s t lt d = by (d.until.0 == s) (nat_lt d.until.0 t) refl refl
  where
    by : (a b : Bool) → (d.until.0 == s) ≡ a → nat_lt d.until.0 t ≡ b → cond a 1 0 ≤ cond b 1 0
    by true true e f = omega arith
    by true false e f = absurd (omega (arith, eqb-true d.until.0 s e, ltb-false _ _ f))
    by false b e f = omega arith

-- what is among them lies before none of the least
pub at_least : (s t : ℕ) (ds : List Due) → 0 < count_by (λ d. d.until.0 == s) ds → NoneBefore t ds → t ≤ s
at_least s t ds there none = by (nat_lt s t) refl
  where
    by : (b : Bool) → nat_lt s t ≡ b → t ≤ s
    by true e = absurd (omega (arith, there, none, sum_by-le-sum_by (λ (d : Due). cond (d.until.0 == s) 1 0) (λ (d : Due). cond (nat_lt d.until.0 t) 1 0) ds (at_or_below s t (ltb-true s t e))))
    by false e = ltb-false s t e

-- what is popped lies before now, if one does
pub popped_before : (cmp : Due → Due → Ordering) → Law cmp → (r : Option Due) (t now : ℕ) (xs ys : List Due) → IsHeap cmp xs → IfSome r (λ x. PopsGreatest cmp xs x ys)
    → 0 < count_by (λ d. d.until.0 == t) xs → t < now → IfSome r (λ x. x.until.0 < now)
popped_before cmp law None t now xs ys heap h there lt = tt
popped_before cmp law (Some x) t now xs ys heap h there lt =
    let le = at_least t x.until.0 xs there (none_before cmp law x xs (h heap).1) in
    omega (arith, le, lt)

pub popped_sums : (r : Option Due) (xs ys : List Due) → IfSome r (λ x. IsPermutation xs (x ∷ ys)) → IfSome r (λ x. (f : Due → ℕ) → sum_by f ys + f x ≡ sum_by f xs)
popped_sums None xs ys h = tt
popped_sums (Some x) xs ys h = λ f. sum_by_popped f x xs ys h
