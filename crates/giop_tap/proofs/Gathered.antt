-- The numbers of all requests that wait, gathered from their places and put in order.
use Rattle.std.proofs.Common.{◌≡◌, ℕ, suc, ◌+◌, ◌<◌, ◌≤◌, ltb, Bool, true, false, cond, List, [], ◌∷◌, ◌++◌, length, refl, sym, ap, ◌∙◌, true≢false, arith}
use Rattle.std.specs.BTreeMap.{is_at as is_at_key}
use Rattle.std.specs.Global.{Vec}
use Rattle.std.specs.List.{AllByRecursion, flat_map, slice_index_or, sum_by}
use Rattle.std.specs.List.Sorted.{IsNonDecreasing, IsPermutation, IsSortedByKey, IsStrictlySortedBy}
use Rattle.std.specs.Map.{keys_of, lookup, values_of}
use Rattle.std.specs.Option.{option_map_or}
use Rattle.std.specs.Ordering.{is_eq, nat_cmp}
use Rattle.std.specs.declared.cmp.Ordering.{Ordering}
use Rattle.std.specs.declared.cmp.Ordering.TheVariants.{Less}
use Rattle.std.proofs.lemmas.Bool.{le-ltb, ltb-false}
use Rattle.std.proofs.lemmas.List.Sorted.{IsNonDecreasingBy-from_sort, sum_by-IsPermutation}
use Rattle.std.proofs.lemmas.List.Sums.{sum_by-append, sum_by-cons}
use Rattle.std.proofs.lemmas.Map.Entries.{lookup_head, lookup_tail}
use Rattle.giop_tap.specs.declared.place.Place.{Place}
use Rattle.giop_tap.specs.Pairing.{Asked}
use Rattle.giop_tap.specs.Waiting.{AreRising, AreWaiting, Waits, gathered, is_at, is_same_place, numbers, numbers_at, numbers_in, place_cmp}
use Rattle.giop_tap.proofs.Places.{apart, place-is, place-itself, place_of, waits-here}

-- those that do not wait at a place
others : Place → List Asked → List Asked
others p [] = []
others p (a ∷ later) = cond (is_at p a) (others p later) (a ∷ others p later)

none-at : (p : Place) (ws : List Asked) → numbers_at p (others p ws) ≡ []
unfolding others
none-at p [] = refl
none-at p (a ∷ later) = by (is_at p a) refl (none-at p later)
  where
    by : (b : Bool) → is_at p a ≡ b → numbers_at p (others p later) ≡ [] → numbers_at p (cond b (others p later) (a ∷ others p later)) ≡ []
    by true e next = next
    by false e next = ap (λ (b : Bool). cond b (a.number ∷ numbers_at p (others p later)) (numbers_at p (others p later))) e ∙ next

-- at another place there are the same
same-at : (p q : Place) (ws : List Asked) → is_same_place q p ≡ false → numbers_at q (others p ws) ≡ numbers_at q ws
unfolding others
same-at p q [] differ = refl
same-at p q (a ∷ later) differ = by (is_at p a) (is_at q a) refl refl (same-at p q later differ)
  where
    by : (b c : Bool) → is_at p a ≡ b → is_at q a ≡ c → numbers_at q (others p later) ≡ numbers_at q later → numbers_at q (cond b (others p later) (a ∷ others p later)) ≡ cond (is_at q a) (a.number ∷ numbers_at q later) (numbers_at q later)
    by true true e f next = absurd (true≢false (sym e ∙ apart q p a differ f))
    by true false e f next = next ∙ sym (ap (λ (b : Bool). cond b (a.number ∷ numbers_at q later) (numbers_at q later)) f)
    by false c e f next = ap (λ (ns : List ℕ). cond (is_at q a) (a.number ∷ ns) ns) next

-- sums over those at a place and over the others make that over all
parted : (f : ℕ → ℕ) (p : Place) (ws : List Asked) → sum_by f (numbers_at p ws) + sum_by f (numbers (others p ws)) ≡ sum_by f (numbers ws)
unfolding others
parted f p [] = refl
parted f p (a ∷ later) = by (is_at p a) (parted f p later)
  where
    by : (b : Bool) → sum_by f (numbers_at p later) + sum_by f (numbers (others p later)) ≡ sum_by f (numbers later) → sum_by f (cond b (a.number ∷ numbers_at p later) (numbers_at p later)) + sum_by f (numbers (cond b (others p later) (a ∷ others p later))) ≡ sum_by f (a.number ∷ numbers later)
    by true next =
        let one = sum_by-cons f a.number (numbers_at p later) in let all = sum_by-cons f a.number (numbers later) in omega arith
    by false next =
        let one = sum_by-cons f a.number (numbers (others p later)) in let all = sum_by-cons f a.number (numbers later) in omega arith

-- no place is twice among those that are kept
none-left : (p : Place) (es : Waits) → AllByRecursion (λ q. place_cmp p q ≡ Less) (keys_of es) → numbers_in es p ≡ []
none-left p [] all = refl
none-left p (e ∷ es) all =
    ap (λ o. option_map_or (λ (v : Vec ℕ). v.items) o []) (lookup_tail (is_at_key (place_cmp p)) e es (ap is_eq all.0)) ∙ none-left p es all.1

-- what is left where the first place is left out
left-waiting : (e : Place × Vec ℕ) (es : Waits) (ws : List Asked) → AllByRecursion (λ q. place_cmp e.0 q ≡ Less) (keys_of es) → AreWaiting (e ∷ es) ws → AreWaiting es (others e.0 ws)
left-waiting e es ws apart-all stands q = by (is_same_place q e.0) refl
  where
    by : (b : Bool) → is_same_place q e.0 ≡ b → numbers_in es q ≡ numbers_at q (others e.0 ws)
    by true h =
        ap (λ (r : Place). numbers_in es r) (place-is q e.0 h) ∙ none-left e.0 es apart-all ∙ sym (none-at e.0 ws) ∙ ap (λ (r : Place). numbers_at r (others e.0 ws)) (sym (place-is q e.0 h))
    by false h =
        sym (ap (λ o. option_map_or (λ (v : Vec ℕ). v.items) o []) (lookup_tail (is_at_key (place_cmp q)) e es h)) ∙ stands q ∙ sym (same-at e.0 q ws h)

-- where no place is kept, none waits
none-waits : (ws : List Asked) → AreWaiting [] ws → ws ≡ []
none-waits [] stands = refl
none-waits (a ∷ later) stands =
    let here : is_at (place_of a) a ≡ true = waits-here a.number (place_of a) in
    let none : [] ≡ a.number ∷ numbers_at (place_of a) later = stands (place_of a) ∙ ap (λ (b : Bool). cond b (a.number ∷ numbers_at (place_of a) later) (numbers_at (place_of a) later)) here in
    absurd (cc)

pub gathered-sum : (f : ℕ → ℕ) (es : Waits) (ws : List Asked) → IsStrictlySortedBy place_cmp (keys_of es) → AreWaiting es ws → sum_by f (gathered es) ≡ sum_by f (numbers ws)
unfolding IsStrictlySortedBy
gathered-sum f [] ws sorted stands = ap (λ (ws : List Asked). sum_by f (numbers ws)) (sym (none-waits ws stands))
gathered-sum f (e ∷ es) ws sorted stands =
    let first : e.1.items ≡ numbers_at e.0 ws =
    sym (ap (λ o. option_map_or (λ (v : Vec ℕ). v.items) o []) (lookup_head (is_at_key (place_cmp e.0)) e es (place-itself e.0))) ∙ stands e.0 in
    let next = gathered-sum f es (others e.0 ws) sorted.1 (left-waiting e es ws sorted.0 stands) in
    let here : sum_by f e.1.items ≡ sum_by f (numbers_at e.0 ws) = ap (λ (ns : List ℕ). sum_by f ns) first in
    let two = sum_by-append f e.1.items (gathered es) in
    let all = parted f e.0 ws in
    omega arith

-- numbers in order

pub Rises : List ℕ → Type 0
Rises [] = Unit {0}
Rises (n ∷ ns) = AllByRecursion (λ m. n ≤ m) ns × Rises ns

pub numbers-rise : (ws : List Asked) → AreRising ws → Rises (numbers ws)
unfolding Rises
numbers-rise [] rising = tt
numbers-rise (a ∷ later) rising = (above later rising.0, numbers-rise later rising.1)
  where
    above : (ws : List Asked) → AllByRecursion (λ b. a.number < b.number) ws → AllByRecursion (λ m. a.number ≤ m) (numbers ws)
    above [] all = tt
    above (b ∷ ws) all = let less = all.0 in (let l : a.number ≤ b.number = omega arith in l, above ws all.1)

pub in-order : (ns : List ℕ) → IsNonDecreasing ns → Rises ns
unfolding Rises
in-order [] up = tt
in-order (n ∷ ns) up =
    (above ns (λ j less. up 0 (suc j) 0 (omega arith) (omega arith)), in-order ns (λ i j d le less. up (suc i) (suc j) d (omega arith) (omega arith)))
  where
    above : (ms : List ℕ) → ((j : ℕ) → j < length ms → n ≤ slice_index_or ms j 0) → AllByRecursion (λ m. n ≤ m) ms
    above [] each = tt
    above (m ∷ ms) each = (each 0 (omega arith), above ms (λ j less. each (suc j) (omega arith)))

-- how many are below a number
is_below : ℕ → ℕ → ℕ
is_below n m = cond (ltb m n) 1 0

none-below : (n : ℕ) (ns : List ℕ) → AllByRecursion (λ m. n ≤ m) ns → sum_by (is_below n) ns ≡ 0
unfolding is_below
none-below n [] all = refl
none-below n (m ∷ ns) all =
    let zero : is_below n m ≡ 0 = ap (λ (b : Bool). cond b 1 0) (le-ltb m n all.0) in
    let next = none-below n ns all.1 in
    let more = sum_by-cons (is_below n) m ns in
    omega arith

first-at-least : (m : ℕ) (ms : List ℕ) (n : ℕ) (ns : List ℕ) → AllByRecursion (λ k. n ≤ k) ns → ((f : ℕ → ℕ) → sum_by f (m ∷ ms) ≡ sum_by f (n ∷ ns)) → n ≤ m
unfolding is_below
first-at-least m ms n ns all same = by (ltb m n) refl
  where
    by : (b : Bool) → ltb m n ≡ b → n ≤ m
    by true e =
        let one : is_below n m ≡ 1 = ap (λ (b : Bool). cond b 1 0) e in
        let zero : is_below n n ≡ 0 = ap (λ (b : Bool). cond b 1 0) (le-ltb n n (omega arith)) in
        let rest = none-below n ns all in
        let left = sum_by-cons (is_below n) m ms in
        let right = sum_by-cons (is_below n) n ns in
        let sums = same (is_below n) in
        absurd (omega arith)
    by false e = ltb-false m n e

-- rising lists with the same sums are one
same-rising : (ms ns : List ℕ) → Rises ms → Rises ns → ((f : ℕ → ℕ) → sum_by f ms ≡ sum_by f ns) → ms ≡ ns
unfolding Rises
same-rising [] [] up down same = refl
same-rising [] (n ∷ ns) up down same = let none : 0 ≡ sum_by (λ k. 1) (n ∷ ns) = same (λ k. 1) in let some = sum_by-cons (λ (k : ℕ). 1) n ns in absurd (omega arith)
same-rising (m ∷ ms) [] up down same = let none : sum_by (λ k. 1) (m ∷ ms) ≡ 0 = same (λ k. 1) in let some = sum_by-cons (λ (k : ℕ). 1) m ms in absurd (omega arith)
same-rising (m ∷ ms) (n ∷ ns) up down same =
    let one = first-at-least m ms n ns down.0 same in
    let other = first-at-least n ns m ms up.0 (λ f. sym (same f)) in
    let first : m ≡ n = omega arith in
    let rest = same-rising ms ns up.1 down.1 (λ f. left f (ap f first)) in
    λ i. first i ∷ rest i
  where
    left : (f : ℕ → ℕ) → f m ≡ f n → sum_by f ms ≡ sum_by f ns
    left f e = let one = sum_by-cons f m ms in let other = sum_by-cons f n ns in let both = same f in omega arith

-- numbers that were gathered and put in order are those that wait, in their order
pub sorted-numbers : (old new : List ℕ) (es : Waits) (ws : List Asked) → old ≡ gathered es → IsStrictlySortedBy place_cmp (keys_of es) → IsPermutation old new → IsSortedByKey (λ (n : ℕ). n) nat_cmp new
    → AreRising ws → AreWaiting es ws → new ≡ numbers ws
sorted-numbers old new es ws is sorted moved order rising stands =
    same-rising new (numbers ws) (in-order new (IsNonDecreasingBy-from_sort (λ n. n) new order)) (numbers-rise ws rising)
    (λ f. sum_by-IsPermutation f old new moved ∙ ap (λ (ns : List ℕ). sum_by f ns) is ∙ gathered-sum f es ws sorted stands)
