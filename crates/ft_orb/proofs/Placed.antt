-- How many are parked, and who waits on a connection, by what lies under each number.
use Rattle.std.proofs.Common.{◌≡◌, ◌==◌, ℕ, zero, suc, ◌+◌, ◌<◌, ◌≤◌, Bool, true, false, cond, ◌||◌, List, [], ◌∷◌, length, Option, Some, None, refl, sym, ap, ◌∙◌, arith}
use Rattle.std.specs.BTreeMap.{BTreeMap, get, is_at}
use Rattle.std.specs.Cmp.{unsigned_tied}
use Rattle.std.specs.List.{count_by, list_any, sum_by}
use Rattle.std.specs.Map.{lookup, remove_entry, values_of}
use Rattle.std.specs.Option.{option_map, option_map_or, unwrap_or}
use Rattle.std.specs.Ordering.{nat_cmp}
use Rattle.std.proofs.lemmas.Bool.{eqb-false, eqb-true, ne_eqb}
use Rattle.std.proofs.lemmas.List.{length-map}
use Rattle.std.proofs.lemmas.List.Sums.{count_by-le-length, sum_by-cons}
use Rattle.std.proofs.lemmas.Map.Entries.{sum_by-remove_entry}
use Rattle.std.proofs.lemmas.Map.Views.{any-filter_same}
use Rattle.ft_orb.specs.declared.parked.Parked.{Parked}
use Rattle.ft_orb.specs.declared.parked.Waiter.{Waiter}
use Rattle.ft_orb.specs.Counts.{on_connection, parked_on, waiters_on}
use Rattle.ft_orb.specs.Deeds.{count_under}
use Rattle.ft_orb.specs.Engines.{Awaited, awaited_of}
use Rattle.ft_orb.specs.Parked.{on_going}

-- what lies under a number
abbrev under : List (ℕ × Parked) → ℕ → Option Awaited
under es n = option_map (λ (p : Parked). awaited_of p.pending) (lookup (is_at (nat_cmp n)) es)

at-is : (n k : ℕ) → is_at (nat_cmp n) k ≡ (n == k)
at-is n k = unsigned_tied n k

-- what lies under another number stays, where one is taken out
lookup-other : (n q : ℕ) → (n == q) ≡ false → (es : List (ℕ × Parked)) → lookup (is_at (nat_cmp q)) (remove_entry (is_at (nat_cmp n)) es) ≡ lookup (is_at (nat_cmp q)) es
lookup-other n q apart [] = refl
lookup-other n q apart (e ∷ es) = by (is_at (nat_cmp n) e.0) refl (lookup-other n q apart es)
  where
    by : (b : Bool) → is_at (nat_cmp n) e.0 ≡ b → lookup (is_at (nat_cmp q)) (remove_entry (is_at (nat_cmp n)) es) ≡ lookup (is_at (nat_cmp q)) es
        → lookup (is_at (nat_cmp q)) (cond b es (e ∷ remove_entry (is_at (nat_cmp n)) es)) ≡ cond (is_at (nat_cmp q) e.0) (Some e.1) (lookup (is_at (nat_cmp q)) es)
    by true is rest =
        let here : n ≡ e.0 = eqb-true n e.0 (sym (at-is n e.0) ∙ is) in
        let away : is_at (nat_cmp q) e.0 ≡ false = at-is q e.0 ∙ ap (λ (k : ℕ). q == k) (sym here) ∙ ne_eqb q n (λ same. eqb-false n q apart (sym same)) in
        ap (λ (b : Bool). cond b (Some e.1) (lookup (is_at (nat_cmp q)) es)) (sym away)
    by false is rest = ap (λ (o : Option Parked). cond (is_at (nat_cmp q) e.0) (Some e.1) o) rest

pub count-same : (test : Awaited → Bool) (f g : ℕ → Option Awaited) (n : ℕ) → ((q : ℕ) → q < n → f q ≡ g q) → count_under test f n ≡ count_under test g n
count-same test f g zero h = refl
count-same test f g (suc n) h =
    let rest = count-same test f g n (λ q less. h q (omega (arith, less))) in
    λ i. cond (option_map_or test (h n (omega arith) i) false) (rest i + 1) (rest i)

-- no more lie under the first numbers than are parked
pub count-within : (view : Awaited → Bool) (es : List (ℕ × Parked)) (n : ℕ) → count_under view (under es) n ≤ count_by (λ (p : Parked). view (awaited_of p.pending)) (values_of es)
count-within view es zero = omega arith
count-within view es (suc n) = by (lookup (is_at (nat_cmp n)) es) refl (λ left. count-within view left n)
  where
    step : (b : Bool) (count few left all : ℕ) → few ≤ left → count ≡ few → left + cond b 1 0 ≡ all → cond b (count + 1) count ≤ all
    step true count few left all a b c = omega (arith, a, b, c)
    step false count few left all a b c = omega (arith, a, b, c)

    by : (o : Option Parked) → lookup (is_at (nat_cmp n)) es ≡ o → ((left : List (ℕ × Parked)) → count_under view (under left) n ≤ count_by (λ (p : Parked). view (awaited_of p.pending)) (values_of left))
        → cond (option_map_or view (option_map (λ (p : Parked). awaited_of p.pending) o) false) (count_under view (under es) n + 1) (count_under view (under es) n) ≤ count_by (λ (p : Parked). view (awaited_of p.pending)) (values_of es)
    by None is fewer_in = fewer_in es
    by (Some p) is fewer_in =
        let left = remove_entry (is_at (nat_cmp n)) es in
        let fewer = fewer_in left in
        let same : count_under view (under es) n ≡ count_under view (under left) n = count-same view (under es) (under left) n (λ q less. ap (λ (o : Option Parked). option_map (λ (p : Parked). awaited_of p.pending) o) (sym (lookup-other n q (ne_eqb n q (λ e. omega (arith, e, less))) es))) in
        let all : sum_by (λ (p : Parked). cond (view (awaited_of p.pending)) 1 0) (values_of left) + cond (view (awaited_of p.pending)) 1 0 ≡ sum_by (λ (p : Parked). cond (view (awaited_of p.pending)) 1 0) (values_of es) =
        ap (λ (o : Option Parked). sum_by (λ (p : Parked). cond (view (awaited_of p.pending)) 1 0) (values_of left) + unwrap_or (option_map (λ (p : Parked). cond (view (awaited_of p.pending)) 1 0) o) 0) (sym is) ∙ sum_by-remove_entry (λ (p : Parked). cond (view (awaited_of p.pending)) 1 0) (is_at (nat_cmp n)) es in
        step (view (awaited_of p.pending)) (count_under view (under es) n) _ _ _ fewer same all

pub all-within : (es : List (ℕ × Parked)) (n : ℕ) → count_under (λ w. true) (under es) n ≤ length es
all-within es n =
    let one = count-within (λ w. true) es n in
    let two = count_by-le-length (λ (p : Parked). true) (values_of es) in
    let three : length (values_of es) ≡ length es = length-map es (λ (e : ℕ × Parked). e.1) in
    omega (arith, one, two, three)

pub came-within : (m : BTreeMap ℕ Parked) (c n : ℕ) → count_under (λ w. w.connection == c) (under m.entries) n ≤ parked_on m c
came-within m c n = count-within (λ w. w.connection == c) m.entries n

-- Where nobody waits on a connection in all, nobody does under a number.
none-at : (c : ℕ) (m : BTreeMap ℕ Parked) (n : ℕ) (p : Parked) → get nat_cmp m n ≡ Some p → waiters_on m c ≡ 0 → on_connection c p.waiters.items ≡ 0
none-at c m n p is none =
    let f = λ (p : Parked). on_connection c p.waiters.items in
    let all : sum_by f (values_of (remove_entry (is_at (nat_cmp n)) m.entries)) + f p ≡ waiters_on m c =
    ap (λ (o : Option Parked). sum_by f (values_of (remove_entry (is_at (nat_cmp n)) m.entries)) + unwrap_or (option_map f o) 0) (sym is) ∙ sum_by-remove_entry f (is_at (nat_cmp n)) m.entries in
    omega (arith, all, none)

none-of : (c : ℕ) (goes : ℕ → Bool) (ws : List Waiter) → on_connection c ws ≡ 0 → list_any (λ w. w.connection == c) (on_going goes ws) ≡ false
none-of c goes [] none = refl
none-of c goes (w ∷ ws) none =
    let size : cond (w.connection == c) 1 0 + on_connection c ws ≡ 0 = sym (sum_by-cons (λ (w : Waiter). cond (w.connection == c) 1 0) w ws) ∙ none in
    by (w.connection == c) refl (goes w.connection) (none-of c goes ws) size
  where
    by : (b : Bool) → (w.connection == c) ≡ b → (g : Bool) → (on_connection c ws ≡ 0 → list_any (λ w. w.connection == c) (on_going goes ws) ≡ false) → cond b 1 0 + on_connection c ws ≡ 0 → list_any (λ w. w.connection == c) (cond g (w ∷ on_going goes ws) (on_going goes ws)) ≡ false
    by true is g rest size = absurd (omega (arith, size))
    by false is true rest size = ap (λ (b : Bool). b || list_any (λ (w : Waiter). w.connection == c) (on_going goes ws)) is ∙ rest (omega (arith, size))
    by false is false rest size = rest (omega (arith, size))

-- .. nor where it doesn't go on
none-gone : (c : ℕ) (goes : ℕ → Bool) → goes c ≡ false → (ws : List Waiter) → list_any (λ w. w.connection == c) (on_going goes ws) ≡ false
none-gone c goes ended ws = any-filter_same (λ (w : Waiter). w.connection == c) (λ w. goes w.connection) false (λ w is. ap goes (eqb-true w.connection c is) ∙ ended) ws

pub nobody-under : (c : ℕ) (m : BTreeMap ℕ Parked) (goes : ℕ → Bool) → cond (goes c) (waiters_on m c) 0 ≡ 0 → (n : ℕ) (p : Parked) → get nat_cmp m n ≡ Some p → list_any (λ w. w.connection == c) (on_going goes p.waiters.items) ≡ false
nobody-under c m goes none n p is = by (goes c) refl none
  where
    by : (b : Bool) → goes c ≡ b → cond b (waiters_on m c) 0 ≡ 0 → list_any (λ w. w.connection == c) (on_going goes p.waiters.items) ≡ false
    by true so none = none-of c goes p.waiters.items (none-at c m n p is none)
    by false so none = none-gone c goes so p.waiters.items
