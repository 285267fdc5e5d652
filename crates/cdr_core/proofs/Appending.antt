-- Octets that are appended part by part.
use Rattle.std.proofs.Common.{◌≡◌, ℕ, ◌+◌, ◌-◌, ◌<◌, ◌≤◌, List, [], ◌∷◌, ◌++◌, length, take, drop, get_or, map, refl, sym, ap, ◌∙◌, arith, append_assoc, length-append}
use Rattle.std.proofs.lemmas.List.{append-nil, drop_at, drop_more}
use Rattle.cdr_core.specs.declared.order.Order.{Order}
use Rattle.cdr_core.specs.Encapsulation.{byte_order}
use Rattle.cdr_core.specs.Spelling.{Takes}
use Rattle.cdr_core.proofs.Turns.{with_last}
use Rattle.cdr_core.specs.Private.{Keeps}
use Rattle.cdr_core.specs.Value as value
use Rattle.cdr_core.specs.Value.{Value, Values, values}
use Rattle.cdr_core.specs.Writing.{octets_of, octets_of_all, place_in, Appends, PutsAll, Writing}

pub keeps_all : (old new : List ℕ) → new ≡ old → Keeps old new
keeps_all old new e = record { more = []; parts = e ∙ sym (append-nil old) }

pub keeps_more : (old mid new more : List ℕ) → Keeps old mid → new ≡ mid ++ more → Keeps old new
keeps_more old mid new more k e = record { more = k.more ++ more; parts = e ∙ ap (λ xs. xs ++ more) k.parts ∙ append_assoc old k.more more }

pub keeps_both : (old mid new : List ℕ) → Keeps old mid → Keeps mid new → Keeps old new
keeps_both old mid new a b = keeps_more old mid new b.more a b.parts

-- what is left once the rest is dropped
pub kept : (old new : List ℕ) → Keeps old new → take (length old) new ≡ old
kept old new k = rw (k.parts) (take_front old k.more)
  where
    take_front : (xs ys : List ℕ) → take (length xs) (xs ++ ys) ≡ xs
    take_front [] ys = refl
    take_front (x ∷ xs) ys = ap (λ r. x ∷ r) (take_front xs ys)

pub begins : (start : ℕ) (old new : List ℕ) → start ≤ length old → Keeps old new → start ≤ length new
begins start old new le k = omega (arith, le, ap length k.parts, length-append old k.more)

-- one append after another keeps what the output held, and so a writer's start
abbrev pub Stands : ℕ → List ℕ → List ℕ → Type 0
Stands start old mid = (start ≤ length mid) × Keeps old mid

pub stands : {start : ℕ} {old : List ℕ} → start ≤ length old → Stands start old old
stands {start} {old} le = (le, keeps_all old old refl)

pub then_stands : {start : ℕ} {old mid new : List ℕ} (more : List ℕ) → Stands start old mid → new ≡ mid ++ more → Stands start old new
then_stands {start} {old} {mid} {new} more s e =
    let k : Keeps mid new = record { more = more; parts = e } in
    (begins start mid new s.0 k, keeps_both old mid new s.1 k)

pub keeps_as : {start : ℕ} {old mid new : List ℕ} → Stands start old mid → new ≡ mid → Keeps old new
keeps_as {start} {old} {mid} {new} s e = keeps_both old mid new s.1 (keeps_all mid new e)

pub keeps_as_kept : {start : ℕ} {old mid new : List ℕ} → Stands start old mid → Keeps mid new → Keeps old new
keeps_as_kept {start} {old} {mid} {new} s k = keeps_both old mid new s.1 k

pub keeps_behind : {old mid new : List ℕ} (more : List ℕ) → mid ≡ old ++ more → Keeps mid new → Keeps old new
keeps_behind {old} {mid} {new} more e k = keeps_both old mid new (record { more = more; parts = e }) k

-- the place after what was appended
pub place_behind : (at start : ℕ) (old new : List ℕ) → start ≤ length old → at + (length (old ++ new) - start) ≡ (at + (length old - start)) + length new
place_behind at start old new le = omega (arith, length-append old new)

-- a part, and what follows it at the place where it ends
pub appended : (at start : ℕ) (old front mid new : List ℕ) (g : ℕ → List ℕ) → start ≤ length old → mid ≡ old ++ front → new ≡ mid ++ g (at + (length mid - start))
    → new ≡ old ++ (front ++ g ((at + (length old - start)) + length front))
appended at start old front mid new g le first second =
    second ∙ ap (λ xs. xs ++ g (at + (length xs - start))) first ∙ ap (λ q. (old ++ front) ++ g q) (place_behind at start old front le) ∙ append_assoc old front (g ((at + (length old - start)) + length front))

pub puts_none : (w : Writing) (old : List ℕ) → PutsAll w value.no_values old old
puts_none w old = sym (append-nil old)

pub puts_next : (w : Writing) (v : Value) (vs : Values) (old mid new : List ℕ) → w.start ≤ length old → Appends w v old mid → PutsAll w vs mid new → PutsAll w (value.value v vs) old new
puts_next w v vs old mid new le first second = appended w.at w.start old (octets_of w.order v (place_in w old)) mid new (octets_of_all w.order vs) le first second

-- a loop over what values are made of

pub list_next : {A : Type 0} (f : A → Value) (all : List A) (i : ℕ) (x : A) → i < length all → x ≡ get_or all i x → values (map f (drop i all)) ≡ value.value (f x) (values (map f (drop (i + 1) all)))
list_next f all i x lt is = ap (λ xs. values (map f xs)) (drop_more all i x lt) ∙ ap (λ y. value.value (f y) (values (map f (drop (i + 1) all)))) (sym is)

-- the octets of what is left, once one was appended
pub list_left : {A : Type 0} (f : A → Value) (w : Writing) (all : List A) (i : ℕ) (x : A) (old new : List ℕ) → i < length all → x ≡ get_or all i x → w.start ≤ length old
    → Appends w (f x) old new
    → new ++ octets_of_all w.order (values (map f (drop (i + 1) all))) (place_in w new) ≡ old ++ octets_of_all w.order (values (map f (drop i all))) (place_in w old)
list_left f w all i x old new lt is le e =
    let vs = values (map f (drop (i + 1) all)) in
    puts_next w (f x) vs old new (new ++ octets_of_all w.order vs (place_in w new)) le e refl
    ∙ sym (ap (λ ws. old ++ octets_of_all w.order ws (place_in w old)) (list_next f all i x lt is))

-- what is left after a front, counted from the end
pub front_left : (A : ℕ → List ℕ → Type 0) (o : ℕ) (octets : List ℕ) (p : ℕ) (rest : List ℕ) → Takes A o octets p rest
    → (length rest ≤ length octets) × (p ≡ o + (length octets - length rest)) × (rest ≡ drop (length octets - length rest) octets)
front_left A o octets p rest t =
    let all : length octets ≡ length t.front + length rest = ap length t.parts ∙ length-append t.front rest in
    let n : length t.front ≡ length octets - length rest = omega arith in
    (omega arith, omega (arith, t.place), sym (ap (drop (length octets - length rest)) t.parts ∙ drop_at t.front rest (length octets - length rest) n))

-- one part after another

pub octets-last : (order : Order) (vs : Values) (v : Value) (o : ℕ) → octets_of_all order (with_last vs v) o ≡ octets_of_all order vs o ++ octets_of order v (o + length (octets_of_all order vs o))
octets-last order value.no_values v o =
    let here : o + 0 ≡ o = omega arith in
    append-nil (octets_of order v o) ∙ ap (λ p. octets_of order v p) (sym here)
octets-last order (value.value w ws) v o =
    let front = octets_of order w o in
    let behind = octets_of_all order ws (o + length front) in
    let place : (o + length front) + length behind ≡ o + length (front ++ behind) = omega (arith, length-append front behind) in
    ap (λ xs. front ++ xs) (octets-last order ws v (o + length front)) ∙ sym (append_assoc front behind (octets_of order v ((o + length front) + length behind))) ∙ ap (λ p. (front ++ behind) ++ octets_of order v p) place

pub puts_then : (w : Writing) (vs : Values) (v : Value) (old mid new : List ℕ) → w.start ≤ length old → PutsAll w vs old mid → Appends w v mid new → PutsAll w (with_last vs v) old new
puts_then w vs v old mid new le first second =
    let o = place_in w old in
    appended w.at w.start old (octets_of_all w.order vs o) mid new (octets_of w.order v) le first second ∙ ap (λ xs. old ++ xs) (sym (octets-last w.order vs v o))

pub puts_one : (w : Writing) (v : Value) (old new : List ℕ) → Appends w v old new → PutsAll w (value.value v value.no_values) old new
puts_one w v old new e = e ∙ ap (λ xs. old ++ xs) (sym (append-nil (octets_of w.order v (place_in w old))))

-- in an encapsulation, after the octet that names its byte order
pub enclosed_puts : (order : Order) (vs : Values) (w : Writing) (old begun new : List ℕ) → begun ≡ old ++ byte_order order ∷ [] → w ≡ record { order = order; at = 1; start = length begun } → PutsAll w vs begun new
    → new ≡ old ++ byte_order order ∷ octets_of_all order vs 1
enclosed_puts order vs w old begun new begins is puts =
    let one : 1 + (length begun - length begun) ≡ 1 = omega arith in
    let all : new ≡ begun ++ octets_of_all order vs (1 + (length begun - length begun)) = rw is at puts in
    all ∙ ap (λ o. begun ++ octets_of_all order vs o) one ∙ ap (λ xs. xs ++ octets_of_all order vs 1) begins ∙ append_assoc old (byte_order order ∷ []) (octets_of_all order vs 1)
