-- Service contexts that are read from octets of the caller.
use Rattle.std.proofs.Common.{◌≡◌, ◌<◌, ◌∙◌, ℕ, suc, true, false, ◌==◌, List, [], ◌∷◌, ◌++◌, length, map, take, Ok, Err, ◌⊎◌, inl, inr, refl, ap, sym, subst, append-nil, arith, length-append}
use Rattle.std.proofs.lemmas.Bool.{eqb-true}
use Rattle.std.specs.Borrow.{Bor}
use Rattle.cdr_core.specs.declared.fault.CdrError.{CdrError}
use Rattle.cdr_core.specs.declared.fault.CdrError.TheVariants as reading
use Rattle.cdr_core.specs.declared.fault.Fault.{Fault}
use Rattle.cdr_core.specs.declared.order.Order.{Order}
use Rattle.cdr_core.specs.Parts.{most}
use Rattle.cdr_core.specs.Private.{Fails, IfMemory}
use Rattle.cdr_core.specs.Reading.{◌>>=◌, Read, each_at, length_at, value_at}
use Rattle.cdr_core.specs.Spelling.{Spells}
use Rattle.cdr_core.specs.Value as value
use Rattle.cdr_core.specs.Value.{Value, Values, values}
use Rattle.cdr_core.proofs.Found.{found}
use Rattle.cdr_core.proofs.Stops.{tells}
use Rattle.ior_core.specs.Grammar.{tagged}
use Rattle.ior_core.specs.View.{lent_value}
use Rattle.ior_core.proofs.Steps.{list_is}
use Rattle.giop_core.specs.Items.{item_at, list_value, tagged_value}
use Rattle.giop_core.specs.Rows.{contexts}
use Rattle.lemonrudder.specs.declared.refusal.Refusal.TheVariants as refusal
use Rattle.lemonrudder.specs.RawCalls.{AreContexts, AreJudged, AreNoContexts, IsShortFor}
use Rattle.lemonrudder.specs.Refusals.{refusal_of_fault, refusal_of_reading}

-- lent items as values
lent_are : (xs : List (ℕ × Bor (List ℕ))) → values (map lent_value xs) ≡ values (map tagged_value (map item_at xs))
lent_are [] = refl
lent_are (x ∷ xs) = ap (value.value (lent_value x)) (lent_are xs)

-- behind a count
abbrev after_count : Order → Read ℕ → Read Value
after_count order r = r >>= λ n. each_at (value_at tagged order) n.0 n.1 n.2 >>= λ x. Ok (value.sequence x.0, x.1, x.2)

abbrev as_list : Read Values → Read Value
as_list r = r >>= λ x. Ok (value.sequence x.0, x.1, x.2)

-- a list is read as its count and its items
list_reads : (order : Order) (octets : List ℕ) (n q : ℕ) (more : List ℕ) (xs : List (ℕ × Bor (List ℕ))) (p : ℕ) (rest : List ℕ) → length_at order 0 most 0 octets ≡ Ok (n, q, more)
    → each_at (value_at tagged order) n q more ≡ Ok (values (map lent_value xs), p, rest) → value_at contexts order 0 octets ≡ Ok (list_value (map item_at xs), p, rest)
list_reads order octets n q more xs p rest count each =
    list_is order 0 octets ∙ ap (after_count order) count ∙ ap as_list each ∙ ap (λ (vs : Values). Ok (value.sequence vs, p, rest)) (lent_are xs)

-- .. or has a fault in one of these
pub count_fails : (order : Order) (octets : List ℕ) (f : Fault) → length_at order 0 most 0 octets ≡ Err f → value_at contexts order 0 octets ≡ Err f
count_fails order octets f count = list_is order 0 octets ∙ ap (after_count order) count

pub each_fails : (order : Order) (octets : List ℕ) (n q : ℕ) (more : List ℕ) (f : Fault) → length_at order 0 most 0 octets ≡ Ok (n, q, more) → each_at (value_at tagged order) n q more ≡ Err f → value_at contexts order 0 octets ≡ Err f
each_fails order octets n q more f count each = list_is order 0 octets ∙ ap (after_count order) count ∙ ap as_list each

-- octets with a fault
pub at_fault : (order : Order) (octets : List ℕ) (f : Fault) → length octets == 0 ≡ false → value_at contexts order 0 octets ≡ Err f → AreNoContexts order octets (refusal_of_fault f)
at_fault order [] f some e = absurd (let k : true ≡ false = some in cc)
at_fault order (o ∷ os) f some e = inl (f, refl, tells contexts order 0 (o ∷ os) f e)

-- a front of octets
take_front : (xs ys : List ℕ) → take (length xs) (xs ++ ys) ≡ xs
take_front [] ys = refl
take_front (x ∷ xs) ys = ap (λ zs. x ∷ zs) (take_front xs ys)

-- some octets are not none
some_are : (x : ℕ) (xs : List ℕ) → length (x ∷ xs) == 0 ≡ true → ⊥
some_are x xs e = let none : length (x ∷ xs) ≡ 0 = eqb-true _ _ e in omega arith

-- octets of which some are left over
pub left_over : (order : Order) (octets : List ℕ) (n q : ℕ) (more : List ℕ) (xs : List (ℕ × Bor (List ℕ))) (p : ℕ) (rest : List ℕ) → length octets == 0 ≡ false → length_at order 0 most 0 octets ≡ Ok (n, q, more)
    → each_at (value_at tagged order) n q more ≡ Ok (values (map lent_value xs), p, rest) → length rest == 0 ≡ false → AreNoContexts order octets refusal.Value
left_over order [] n q more xs p rest some count each left = absurd (let k : true ≡ false = some in cc)
left_over order (o ∷ os) n q more xs p [] some count each left = absurd (let k : true ≡ false = left in cc)
left_over order (o ∷ os) n q more xs p (x ∷ rest) some count each left =
    let all = map item_at xs in
    let t = found contexts order 0 (o ∷ os) (list_value all) p (x ∷ rest) (list_reads order (o ∷ os) n q more xs p (x ∷ rest) count each) in
    let long = ap length t.parts ∙ length-append t.front (x ∷ rest) in
    let front : take (length t.front) (o ∷ os) ≡ t.front = ap (take (length t.front)) t.parts ∙ take_front t.front (x ∷ rest) in
    inr (all, length t.front, refl, omega (arith, long), subst (λ ys. Spells contexts order (list_value all) 0 ys) (sym front) t.holds)

-- octets that are read whole
pub read_whole : (order : Order) (octets : List ℕ) (n q : ℕ) (more : List ℕ) (xs : List (ℕ × Bor (List ℕ))) (p : ℕ) (rest : List ℕ) → length octets == 0 ≡ false → length_at order 0 most 0 octets ≡ Ok (n, q, more)
    → each_at (value_at tagged order) n q more ≡ Ok (values (map lent_value xs), p, rest) → length rest == 0 ≡ true → AreContexts order (map item_at xs) octets
read_whole order [] n q more xs p rest some count each all = absurd (let k : true ≡ false = some in cc)
read_whole order (o ∷ os) n q more xs p (x ∷ rest) some count each all = absurd (some_are x rest all)
read_whole order (o ∷ os) n q more xs p [] some count each all =
    let t = found contexts order 0 (o ∷ os) (list_value (map item_at xs)) p [] (list_reads order (o ∷ os) n q more xs p [] count each) in
    subst (λ ys. Spells contexts order (list_value (map item_at xs)) 0 ys) (sym (t.parts ∙ append-nil t.front)) t.holds

-- nothing is left behind them
rest_none : (rest : List ℕ) → length rest == 0 ≡ true → rest ≡ []
rest_none [] none = refl
rest_none (x ∷ rest) none = absurd (some_are x rest none)

pub nothing_left : (order : Order) (octets : List ℕ) (n q : ℕ) (more : List ℕ) (xs : List (ℕ × Bor (List ℕ))) (p : ℕ) (rest : List ℕ) → length_at order 0 most 0 octets ≡ Ok (n, q, more) → length xs ≡ n
    → each_at (value_at tagged order) n q more ≡ Ok (values (map lent_value xs), p, rest) → length rest == 0 ≡ true → AreJudged order octets (Ok (tt {0}))
nothing_left order octets n q more xs p rest count size each none = (n, q, more, xs, p, count, size, subst (λ (l : List ℕ). each_at (value_at tagged order) n q more ≡ Ok (values (map lent_value xs), p, l)) (rest_none rest none) each)

abbrev parts_in : Read ℕ → ℕ × ℕ × List ℕ
parts_in (Ok x) = x
parts_in (Err f) = (0, 0, [])

-- what was judged is counted again
pub again : (order : Order) (octets : List ℕ) (n q : ℕ) (more : List ℕ) → AreJudged order octets (Ok (tt {0})) → length_at order 0 most 0 octets ≡ Ok (n, q, more)
    → (xs : List (ℕ × Bor (List ℕ))) × (p : ℕ) × (length xs ≡ n) × (each_at (value_at tagged order) n q more ≡ Ok (values (map lent_value xs), p, []))
again order octets n q more j count =
    let parts = ap parts_in (sym j.5 ∙ count) in
    (j.3, j.4, subst (λ (y : ℕ × ℕ × List ℕ). length j.3 ≡ y.0) parts j.6, subst (λ (y : ℕ × ℕ × List ℕ). each_at (value_at tagged order) y.0 y.1 y.2 ≡ Ok (values (map lent_value j.3), j.4, [])) parts j.7)

abbrev left_of : Read Values → List ℕ
left_of (Ok x) = x.2
left_of (Err f) = []

pub left_after : (r : Read Values) (vs ws : Values) (p q : ℕ) (rest : List ℕ) → r ≡ Ok (vs, p, []) → r ≡ Ok (ws, q, rest) → length rest == 0 ≡ true
left_after r vs ws p q rest first after = ap (λ (l : List ℕ). length l == 0) (ap left_of (sym after ∙ first))

items_are : (xs : List (ℕ × Bor (List ℕ))) → length (map item_at xs) ≡ length xs
items_are [] = refl
items_are (x ∷ xs) = ap suc (items_are xs)

-- why what was judged is not read
pub at_error : (order : Order) (octets : List ℕ) (n q : ℕ) (more : List ℕ) (e : CdrError) (xs : List (ℕ × Bor (List ℕ))) (p : ℕ) → length octets == 0 ≡ false → length_at order 0 most 0 octets ≡ Ok (n, q, more) → length xs ≡ n
    → each_at (value_at tagged order) n q more ≡ Ok (values (map lent_value xs), p, []) → Fails e (each_at (value_at tagged order) n q more) → IfMemory e (0 < n) → AreNoContexts order octets (refusal_of_reading e) ⊎ IsShortFor order octets (refusal_of_reading e)
at_error order octets n q more (reading.Bad f) xs p some count size each fails few = inl (at_fault order octets f some (each_fails order octets n q more f count fails))
at_error order octets n q more reading.Memory xs p some count size each fails few =
    let long = items_are xs in
    inr (refl, map item_at xs, read_whole order octets n q more xs p [] some count each refl, omega (arith, long, size, few))

-- no octets are no contexts
pub none_read : (order : Order) (octets : List ℕ) (xs : List (ℕ × Bor (List ℕ))) → length octets == 0 ≡ true → xs ≡ [] → AreContexts order (map item_at xs) octets
none_read order [] xs none is = ap (map item_at) is
none_read order (o ∷ os) xs none is = absurd (some_are o os none)
