-- Loops that read a counted number of values one after another.
use Rattle.std.proofs.Common.{◌≡◌, ℕ, suc, ◌+◌, ◌-◌, ◌<◌, ◌≤◌, List, [], ◌∷◌, ◌++◌, length, map, Ok, Err, refl, sym, ap, subst, ◌∙◌, arith}
use Rattle.cdr_core.specs.declared.fault.Fault.{Fault}
use Rattle.cdr_core.specs.Private.{joined, passing, with_front}
use Rattle.cdr_core.specs.Value as value
use Rattle.cdr_core.specs.Value.{Value, Values, count, values}
use Rattle.cdr_core.specs.Reading.{◌>>=◌, Read, each_at}

-- a value after others
abbrev pub with_last : Values → Value → Values
with_last value.no_values v = value.value v value.no_values
with_last (value.value w ws) v = value.value w (with_last ws v)

pub values_push : {A : Type 0} (f : A → Value) (xs : List A) (x : A) → values (map f (xs ++ x ∷ [])) ≡ with_last (values (map f xs)) (f x)
values_push f [] x = refl
values_push f (y ∷ ys) x = ap (value.value (f y)) (values_push f ys x)

pub count_values : {A : Type 0} (f : A → Value) (xs : List A) → count (values (map f xs)) ≡ length xs
count_values f [] = refl
count_values f (x ∷ xs) = ap suc (count_values f xs)

pub joined-none : (vs : Values) → joined vs value.no_values ≡ vs
joined-none value.no_values = refl
joined-none (value.value v vs) = ap (value.value v) (joined-none vs)

joined-last : (vs : Values) (v : Value) (ws : Values) → joined (with_last vs v) ws ≡ joined vs (value.value v ws)
joined-last value.no_values v ws = refl
joined-last (value.value w vs) v ws = ap (value.value w) (joined-last vs v ws)

-- the next value in front of what is read
abbrev pub then : Value → Read Values → Read Values
then v r = r >>= λ xs. Ok (value.value v xs.0, xs.1, xs.2)

pub front-then : (vs : Values) (v : Value) (r : Read Values) → with_front vs (then v r) ≡ with_front (with_last vs v) r
front-then vs v (Err f) = refl
front-then vs v (Ok x) = ap (λ (ws : Values). Ok (ws, x.1, x.2)) (sym (joined-last vs v x.0))

-- a loop over a count

one_less : (n i : ℕ) → i < n → n - i ≡ suc (n - (i + 1))
one_less n i lt = omega arith

pub each_more : (one : ℕ → List ℕ → Read Value) (vs : Values) (n i o : ℕ) (octets : List ℕ) (v : Value) (p : ℕ) (rest : List ℕ) (total : Read Values) → i < n → one o octets ≡ Ok (v, p, rest)
    → with_front vs (each_at one (n - i) o octets) ≡ total → with_front (with_last vs v) (each_at one (n - (i + 1)) p rest) ≡ total
unfolding each_at
each_more one vs n i o octets v p rest total lt e h =
    let h' : with_front vs (one o octets >>= λ x. then x.0 (each_at one (n - (i + 1)) x.1 x.2)) ≡ total = subst (λ m. with_front vs (each_at one m o octets) ≡ total) (one_less n i lt) h in
    sym (front-then vs v (each_at one (n - (i + 1)) p rest)) ∙ sym (ap (λ (r : Read Value). with_front vs (r >>= λ x. then x.0 (each_at one (n - (i + 1)) x.1 x.2))) e) ∙ h'

pub each_stops : (f : Fault) (one : ℕ → List ℕ → Read Value) (vs : Values) (n i o : ℕ) (octets : List ℕ) (total : Read Values) → i < n → one o octets ≡ Err f
    → with_front vs (each_at one (n - i) o octets) ≡ total → total ≡ Err f
unfolding each_at
each_stops f one vs n i o octets total lt e h =
    let h' : with_front vs (one o octets >>= λ x. then x.0 (each_at one (n - (i + 1)) x.1 x.2)) ≡ total = subst (λ m. with_front vs (each_at one m o octets) ≡ total) (one_less n i lt) h in
    sym h' ∙ ap (λ (r : Read Value). with_front vs (r >>= λ x. then x.0 (each_at one (n - (i + 1)) x.1 x.2))) e

pub each_done : (one : ℕ → List ℕ → Read Value) (vs : Values) (n i o : ℕ) (octets : List ℕ) (total : Read Values) → n ≤ i
    → with_front vs (each_at one (n - i) o octets) ≡ total → total ≡ Ok (vs, o, octets)
unfolding each_at
each_done one vs n i o octets total le h =
    let none : n - i ≡ 0 = omega arith in
    sym h ∙ ap (λ m. with_front vs (each_at one m o octets)) none ∙ ap (λ (ws : Values). Ok (ws, o, octets)) (joined-none vs)

pub passing-then : (v : Value) (r : Read Values) → passing (then v r) ≡ passing r
passing-then v (Ok x) = refl
passing-then v (Err f) = refl

pub pass_more : (one : ℕ → List ℕ → Read Value) (n i o : ℕ) (octets : List ℕ) (v : Value) (p : ℕ) (rest : List ℕ) (total : Read Unit) → i < n → one o octets ≡ Ok (v, p, rest)
    → passing (each_at one (n - i) o octets) ≡ total → passing (each_at one (n - (i + 1)) p rest) ≡ total
unfolding each_at
pass_more one n i o octets v p rest total lt e h =
    let h' : passing (one o octets >>= λ x. then x.0 (each_at one (n - (i + 1)) x.1 x.2)) ≡ total = subst (λ m. passing (each_at one m o octets) ≡ total) (one_less n i lt) h in
    sym (passing-then v (each_at one (n - (i + 1)) p rest)) ∙ sym (ap (λ (r : Read Value). passing (r >>= λ x. then x.0 (each_at one (n - (i + 1)) x.1 x.2))) e) ∙ h'

pub pass_stops : (f : Fault) (one : ℕ → List ℕ → Read Value) (n i o : ℕ) (octets : List ℕ) (total : Read Unit) → i < n → one o octets ≡ Err f
    → passing (each_at one (n - i) o octets) ≡ total → total ≡ Err f
unfolding each_at
pass_stops f one n i o octets total lt e h =
    let h' : passing (one o octets >>= λ x. then x.0 (each_at one (n - (i + 1)) x.1 x.2)) ≡ total = subst (λ m. passing (each_at one m o octets) ≡ total) (one_less n i lt) h in
    sym h' ∙ ap (λ (r : Read Value). passing (r >>= λ x. then x.0 (each_at one (n - (i + 1)) x.1 x.2))) e

pub pass_done : (one : ℕ → List ℕ → Read Value) (n i o : ℕ) (octets : List ℕ) (total : Read Unit) → n ≤ i
    → passing (each_at one (n - i) o octets) ≡ total → total ≡ Ok (tt, o, octets)
unfolding each_at
pass_done one n i o octets total le h =
    let none : n - i ≡ 0 = omega arith in
    sym h ∙ ap (λ m. passing (each_at one m o octets)) none
