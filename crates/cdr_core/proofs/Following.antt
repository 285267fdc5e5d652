-- Values that are appended in runs.
use Rattle.std.proofs.Common.{◌≡◌, ℕ, zero, suc, ◌+◌, ◌-◌, ◌<◌, ◌≤◌, List, [], ◌∷◌, ◌++◌, length, take, drop, get_or, refl, sym, ap, subst, ◌∙◌, arith, append_assoc, length-append, Result, Ok, Err, OnOk}
use Rattle.std.proofs.lemmas.List.{take_more}
use Rattle.cdr_core.specs.declared.order.Order.{Order}
use Rattle.cdr_core.specs.declared.values.Val.{Val}
use Rattle.cdr_core.specs.Value as value
use Rattle.cdr_core.specs.View.{value_of, values_of}
use Rattle.cdr_core.specs.Writing.{octets_of, octets_of_all, place_in, AreWritable, PutsAll, Writing}
use Rattle.cdr_core.proofs.Appending.{appended, octets-last, place_behind}
use Rattle.cdr_core.proofs.Views.{values_of-push}

-- the next of some values is appended after those before it
pub run_next : (order : Order) (place : ℕ) (all : List Val) (i : ℕ) (v : Val) (old mid new : List ℕ) → i < length all → v ≡ get_or all i v → mid ≡ old ++ octets_of_all order (values_of (take i all)) place
    → new ≡ mid ++ octets_of order (value_of v) (place + (length mid - length old)) → new ≡ old ++ octets_of_all order (values_of (take (i + 1) all)) place
run_next order place all i v old mid new lt is first second =
    let before = octets_of_all order (values_of (take i all)) place in
    let more : take (i + 1) all ≡ take i all ++ v ∷ [] = take_more all i v lt ∙ ap (λ x. take i all ++ x ∷ []) (sym is) in
    let long : place + (length mid - length old) ≡ place + length before = omega (arith, ap length first, length-append old before) in
    let whole : octets_of_all order (values_of (take (i + 1) all)) place ≡ before ++ octets_of order (value_of v) (place + length before) =
    ap (λ xs. octets_of_all order (values_of xs) place) more ∙ ap (λ vs. octets_of_all order vs place) (values_of-push (take i all) v) ∙ octets-last order (values_of (take i all)) (value_of v) place in
    second ∙ ap (λ p. mid ++ octets_of order (value_of v) p) long ∙ ap (λ xs. xs ++ octets_of order (value_of v) (place + length before)) first ∙ append_assoc old before (octets_of order (value_of v) (place + length before)) ∙ ap (λ xs. old ++ xs) (sym whole)

-- the octets of values are those of a front, and then those of the others
octets_split : (order : Order) (xs ys : List Val) (o : ℕ) → octets_of_all order (values_of (xs ++ ys)) o ≡ octets_of_all order (values_of xs) o ++ octets_of_all order (values_of ys) (o + length (octets_of_all order (values_of xs) o))
octets_split order [] ys o = let here : o ≡ o + 0 = omega arith in ap (octets_of_all order (values_of ys)) here
octets_split order (x ∷ xs) ys o =
    let front = octets_of order (value_of x) o in
    let behind = octets_of_all order (values_of xs) (o + length front) in
    let place : (o + length front) + length behind ≡ o + length (front ++ behind) = omega (arith, length-append front behind) in
    ap (λ b. front ++ b) (octets_split order xs ys (o + length front)) ∙ sym (append_assoc front behind (octets_of_all order (values_of ys) ((o + length front) + length behind))) ∙ ap (λ p. (front ++ behind) ++ octets_of_all order (values_of ys) p) place

take_drop : {A : Type 0} (n : ℕ) (xs : List A) → take n xs ++ drop n xs ≡ xs
take_drop zero xs = refl
take_drop (suc n) [] = refl
take_drop (suc n) (x ∷ xs) = ap (λ ys. x ∷ ys) (take_drop n xs)

drop_none : {A : Type 0} (n : ℕ) → drop {A = A} n [] ≡ []
drop_none zero = refl
drop_none (suc n) = refl

pub drop_drop : {A : Type 0} (i n : ℕ) (xs : List A) → drop n (drop i xs) ≡ drop (i + n) xs
drop_drop zero n xs = let none : n ≡ 0 + n = omega arith in ap (λ m. drop m xs) none
drop_drop (suc i) n [] = drop_none n ∙ sym (drop_none (suc i + n))
drop_drop (suc i) n (x ∷ xs) =
    let next : suc i + n ≡ suc (i + n) = omega arith in
    drop_drop i n xs ∙ ap (λ m. drop m (x ∷ xs)) (sym next)

-- what is left once a run of those that were left was appended
pub run_left : (w : Writing) (all : List Val) (i n : ℕ) (old new : List ℕ) → w.start ≤ length old → PutsAll w (values_of (take n (drop i all))) old new
    → new ++ octets_of_all w.order (values_of (drop (i + n) all)) (place_in w new) ≡ old ++ octets_of_all w.order (values_of (drop i all)) (place_in w old)
run_left w all i n old new le e =
    let o = place_in w old in
    let run = take n (drop i all) in
    let rest = drop (i + n) all in
    let parts : run ++ rest ≡ drop i all = ap (λ xs. run ++ xs) (sym (drop_drop i n all)) ∙ take_drop n (drop i all) in
    appended w.at w.start old (octets_of_all w.order (values_of run) o) new (new ++ octets_of_all w.order (values_of rest) (place_in w new)) (octets_of_all w.order (values_of rest)) le e refl
    ∙ ap (λ xs. old ++ xs) (sym (octets_split w.order run rest o)) ∙ ap (λ xs. old ++ octets_of_all w.order (values_of xs) o) parts

pub writable_left : (n : ℕ) (xs : List Val) → AreWritable (values_of xs) → AreWritable (values_of (drop n xs))
writable_left zero xs h = h
writable_left (suc n) [] h = h
writable_left (suc n) (x ∷ xs) h = writable_left n xs h.1

pub writable_behind : (i n : ℕ) (all : List Val) → AreWritable (values_of (drop i all)) → AreWritable (values_of (drop (i + n) all))
writable_behind i n all h = subst (λ xs. AreWritable (values_of xs)) (drop_drop i n all) (writable_left n (drop i all) h)

-- an answer that follows from another, if a call succeeded
pub on_ok : {T E P Q : Type 0} (r : Result T E) → (P → Q) → OnOk r P → OnOk r Q
on_ok (Ok x) f h = f h
on_ok (Err e) f h = tt

-- the room for the second of two parts, once the first was appended
pub room_two : (at start room cap : ℕ) (old front mid : List ℕ) (g : ℕ → List ℕ) → start ≤ length old → mid ≡ old ++ front → room ≤ cap
    → length old + length (front ++ g ((at + (length old - start)) + length front)) ≤ room → length mid + length (g (at + (length mid - start))) ≤ cap
room_two at start room cap old front mid g le e more h =
    let p = (at + (length old - start)) + length front in
    let place : at + (length mid - start) ≡ p = ap (λ xs. at + (length xs - start)) e ∙ place_behind at start old front le in
    let same : length (g (at + (length mid - start))) ≡ length (g p) = ap (λ q. length (g q)) place in
    omega (arith, h, more, same, ap length e, length-append old front, length-append front (g p))

-- the room that a run takes, and what is left
pub run_room : (w : Writing) (all : List Val) (i n : ℕ) (old new : List ℕ) → w.start ≤ length old → PutsAll w (values_of (take n (drop i all))) old new
    → length new + length (octets_of_all w.order (values_of (drop (i + n) all)) (place_in w new)) ≡ length old + length (octets_of_all w.order (values_of (drop i all)) (place_in w old))
run_room w all i n old new le e =
    let h = ap length (run_left w all i n old new le e) in
    omega (arith, h, length-append new (octets_of_all w.order (values_of (drop (i + n) all)) (place_in w new)), length-append old (octets_of_all w.order (values_of (drop i all)) (place_in w old)))
