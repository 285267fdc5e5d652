-- Where octets have a fault the reader fails with it, and where it fails they have that fault: numbers, lengths, texts,
-- and one part after another.
use Rattle.std.proofs.Common.{◌≡◌, ◌≢◌, ℕ, zero, suc, ◌+◌, ◌-◌, ◌<◌, ◌≤◌, Bool, true, false, cond, ltb, eqb, List, [], ◌∷◌, ◌++◌, length, take, drop, length-append, Ok, Err, refl, sym, ap, subst, ◌∙◌, arith, append_assoc, inl, inr}
use Rattle.std.proofs.Math.Seq.{take-append-add}
use Rattle.std.proofs.lemmas.Bool.{ltb-true, lt-ltb, le-ltb, eqb-true, eqb-false, ne_eqb, eq-eqb}
use Rattle.std.proofs.lemmas.List.{take-append-drop, length-take-le, length-drop, take_at}
use Rattle.cdr_core.specs.declared.fault.Fault.{Fault}
use Rattle.cdr_core.specs.declared.fault.Kind.{Kind}
use Rattle.cdr_core.specs.declared.fault.Kind.TheVariants as kind
use Rattle.cdr_core.specs.declared.order.Order.{Order}
use Rattle.cdr_core.specs.Value as value
use Rattle.cdr_core.specs.Value.{Value, Values, count}
use Rattle.cdr_core.specs.Numbers.{padding, number_of}
use Rattle.cdr_core.specs.Reading.{◌>>=◌, Read, taken, fault, part_at, number_at, length_at, text_at, to_nul, each_at}
use Rattle.cdr_core.specs.Spelling.{IsNumber, IsClean, Each, Takes}
use Rattle.cdr_core.specs.Stopping.{fault_at, After, Lacks, LacksNumber, IsBadLong, StopsAfterLength, StopsInText, StopsInEach}
use Rattle.cdr_core.proofs.Steps.{bind_err, ended_ok, test_failed, last_failed}
use Rattle.cdr_core.proofs.Gets.{Gets, number_gets}
use Rattle.cdr_core.proofs.Nul.{clean_front, splits, to_nul-append, to_nul-clean}
use Rattle.cdr_core.proofs.Taken.{length_takes, number_takes, taken_is, text_end}

-- where octets have a fault, the reader fails with it
abbrev pub Fails : {X : Type 0} → (ℕ → List ℕ → Fault → Type 0) → (ℕ → List ℕ → Read X) → Type 0
Fails S r = (o : ℕ) (octets : List ℕ) (f : Fault) → S o octets f → r o octets ≡ Err f

-- where the reader fails, octets have its fault
abbrev pub Tells : {X : Type 0} → (ℕ → List ℕ → Fault → Type 0) → (ℕ → List ℕ → Read X) → Type 0
Tells S r = (o : ℕ) (octets : List ℕ) (f : Fault) → r o octets ≡ Err f → S o octets f

pub taken_fails : (n : ℕ) → Fails (Lacks n) (taken n)
taken_fails n o octets f h = let t : ltb (length octets) n ≡ true = lt-ltb _ _ h.0 in rw (t, h.1) refl

pub taken_tells : (n : ℕ) → Tells (Lacks n) (taken n)
taken_tells n o octets f h = let g = last_failed (ltb (length octets) n) _ f (take n octets, o + n, drop n octets) h in (ltb-true _ _ g.0, g.1)

pub number_fails : (order : Order) (n : ℕ) → 0 < n → Fails (LacksNumber n) (number_at order n)
unfolding number_at part_at
number_fails order n some o octets f h =
    let k = padding o n in
    let few : length (drop k octets) < n = omega (arith, length-drop k octets, h.0) in
    ap (λ (r : Read (List ℕ)). r >>= λ x. Ok (number_of order n x.0, x.1, x.2)) (taken_fails n (o + k) (drop k octets) f (few, h.1))

pub number_tells : (order : Order) (n : ℕ) → Tells (LacksNumber n) (number_at order n)
unfolding number_at part_at
number_tells order n o octets f h =
    let k = padding o n in
    let t = taken_tells n (o + k) (drop k octets) f (ended_ok (taken n (o + k) (drop k octets)) (λ x. (number_of order n x.0, x.1, x.2)) f h) in
    (omega (arith, length-drop k octets, t.0), t.1)

pub after_fails : {X Y : Type 0} (A : ℕ → List ℕ → Type 0) (S : ℕ → List ℕ → Fault → Type 0) (r : ℕ → List ℕ → Read X) (s : X → ℕ → List ℕ → Read Y) (x : X) → Gets A r x → Fails S (s x) → Fails (After A S) (λ o octets. r o octets >>= λ a. s a.0 a.1 a.2)
after_fails {X} {Y} A S r s x gets fails o octets f h =
    let a : r o octets ≡ Ok (x, o + length h.front, h.rest) = ap (r o) h.parts ∙ gets o h.front h.rest h.first in
    ap (λ (t : Read X). t >>= λ a. s a.0 a.1 a.2) a ∙ fails (o + length h.front) h.rest f h.second

pub after : (A : ℕ → List ℕ → Type 0) (S : ℕ → List ℕ → Fault → Type 0) (o : ℕ) (octets : List ℕ) (p : ℕ) (rest : List ℕ) (f : Fault) → Takes A o octets p rest → S p rest f → After A S o octets f
after A S o octets p rest f t h = record { front = t.front; rest = rest; parts = t.parts; first = t.holds; second = subst (λ q. S q rest f) t.place h }

pub bad_long : (P : ℕ → Type 0) (kind : Kind) (order : Order) (o : ℕ) (octets : List ℕ) (x p : ℕ) (rest : List ℕ) (f : Fault) → P x → f ≡ fault_at kind (o + padding o 4) → number_at order 4 o octets ≡ Ok (x, p, rest) → IsBadLong P kind order o octets f
bad_long P kind order o octets x p rest f h is e =
    let t = number_takes order 4 (omega arith) o octets x p rest e in
    (x, h, t.front, rest, t.parts, t.holds, is)

module _ {Y : Type 0} (order : Order) (extra bound : ℕ) (S : ℕ → ℕ → List ℕ → Fault → Type 0) (s : ℕ → ℕ → List ℕ → Read Y) where
  over_fails : (o : ℕ) (octets : List ℕ) (f : Fault) → IsBadLong (λ n. bound < n - extra) kind.OverBound order o octets f → length_at order extra bound o octets ≡ Err f
  unfolding length_at
  over_fails o octets f h =
      let t : ltb bound (h.0 - extra) ≡ true = lt-ltb _ _ h.1 in
      rw (h.4, number_gets order 4 h.0 o h.2 h.3 h.5, t, h.6) refl

  pub length_fails : ((n : ℕ) → Fails (S n) (s n)) → Fails (StopsAfterLength order extra bound S) (λ o octets. length_at order extra bound o octets >>= λ n. s n.0 n.1 n.2)
  unfolding length_at
  length_fails fails o octets f (inl h) = rw (number_fails order 4 (omega arith) o octets f h) refl
  length_fails fails o octets f (inr (inl h)) = ap (λ (r : Read ℕ). r >>= λ n. s n.0 n.1 n.2) (over_fails o octets f h)
  length_fails fails o octets f (inr (inr h)) =
      let a = h.2 in
      let t : ltb bound (h.0 - extra) ≡ false = le-ltb _ _ h.1 in
      rw (a.parts, number_gets order 4 h.0 o a.front a.rest a.first, t) (fails h.0 (o + length a.front) a.rest f a.second)

  pub length_tells : ((n : ℕ) → Tells (S n) (s n)) → Tells (StopsAfterLength order extra bound S) (λ o octets. length_at order extra bound o octets >>= λ n. s n.0 n.1 n.2)
  unfolding length_at
  length_tells tells o octets f h =
      elim (bind_err (length_at order extra bound o octets) (λ (n : ℕ × ℕ × List ℕ). s n.0 n.1 n.2) f h) [
        | inl e ↦ cut e
        | inr x ↦ behind x.0 x.1 x.2
      ]
    where
      judged : ℕ × ℕ × List ℕ → Read ℕ
      judged x = cond (ltb bound (x.0 - extra)) (fault kind.OverBound (o + padding o 4)) (Ok x)

      cut : length_at order extra bound o octets ≡ Err f → StopsAfterLength order extra bound S o octets f
      cut e = elim (bind_err (number_at order 4 o octets) judged f e) [
        | inl n ↦ inl (number_tells order 4 o octets f n)
        | inr x ↦ (let g = last_failed (ltb bound (x.0.0 - extra)) (fault_at kind.OverBound (o + padding o 4)) f x.0 x.2 in
            inr (inl (bad_long (λ n. bound < n - extra) kind.OverBound order o octets x.0.0 x.0.1 x.0.2 f (ltb-true _ _ g.0) g.1 x.1)))
      ]

      behind : (x : ℕ × ℕ × List ℕ) → length_at order extra bound o octets ≡ Ok x → s x.0 x.1 x.2 ≡ Err f → StopsAfterLength order extra bound S o octets f
      behind x e g =
          let t = length_takes order extra bound o octets x.0 x.1 x.2 e in
          inr (inr (x.0, t.1, after (IsNumber order 4 x.0) (S x.0) o octets x.1 x.2 f t.0 (tells x.0 x.1 x.2 f g)))

module _ (one : ℕ → List ℕ → Read Value) (Is : Value → ℕ → List ℕ → Type 0) (S : ℕ → List ℕ → Fault → Type 0) where
  each_fails_at : ((v : Value) → Gets (Is v) one v) → Fails S one → (n : ℕ) (vs : Values) (o : ℕ) (octets : List ℕ) (f : Fault) → count vs < n → After (Each Is vs) S o octets f → each_at one n o octets ≡ Err f
  unfolding each_at
  each_fails_at gets fails zero vs o octets f lt h = absurd (omega arith)
  each_fails_at gets fails (suc n) value.no_values o octets f lt h =
      let same : octets ≡ h.rest = h.parts ∙ ap (λ front. front ++ h.rest) h.first in
      let here : o + length h.front ≡ o = ap (λ front. o + length front) h.first ∙ omega arith in
      let e : one o octets ≡ Err f = ap (one o) same ∙ subst (λ q. one q h.rest ≡ Err f) here (fails (o + length h.front) h.rest f h.second) in
      rw e refl
  each_fails_at gets fails (suc n) (value.value v vs) o octets f lt h =
      let i = h.first in
      let whole : octets ≡ i.front ++ (i.rest ++ h.rest) = h.parts ∙ ap (λ front. front ++ h.rest) i.parts ∙ append_assoc i.front i.rest h.rest in
      let e : one o octets ≡ Ok (v, o + length i.front, i.rest ++ h.rest) = ap (one o) whole ∙ gets v o i.front (i.rest ++ h.rest) i.first in
      let place : o + length h.front ≡ (o + length i.front) + length i.rest = omega (arith, ap length i.parts, length-append i.front i.rest) in
      let more : After (Each Is vs) S (o + length i.front) (i.rest ++ h.rest) f = record { front = i.rest; rest = h.rest; parts = refl; first = i.second; second = subst (λ q. S q h.rest f) place h.second } in
      let others = each_fails_at gets fails n vs (o + length i.front) (i.rest ++ h.rest) f (omega arith) more in
      rw (e, others) refl

  pub each_fails : ((v : Value) → Gets (Is v) one v) → Fails S one → (n : ℕ) → Fails (StopsInEach Is S n) (each_at one n)
  each_fails gets fails n o octets f h = each_fails_at gets fails n h.0 o octets f h.1 h.2

  pub each_tells : ((o : ℕ) (octets : List ℕ) (v : Value) (p : ℕ) (rest : List ℕ) → one o octets ≡ Ok (v, p, rest) → Takes (Is v) o octets p rest) → Tells S one → (n : ℕ) → Tells (StopsInEach Is S n) (each_at one n)
  unfolding each_at
  each_tells finds tells zero o octets f h = absurd cc
  each_tells finds tells (suc n) o octets f h =
      elim (bind_err (one o octets) (λ (x : Value × ℕ × List ℕ). each_at one n x.1 x.2 >>= λ xs. Ok (value.value x.0 xs.0, xs.1, xs.2)) f h) [
        | inl e ↦ (value.no_values, omega arith, record { front = []; rest = octets; parts = refl; first = refl; second = subst (λ q. S q octets f) (omega arith) (tells o octets f e) })
        | inr x ↦ later x.0 x.1 (each_tells finds tells n x.0.1 x.0.2 f (ended_ok (each_at one n x.0.1 x.0.2) (λ xs. (value.value x.0.0 xs.0, xs.1, xs.2)) f x.2))
      ]
    where
      later : (x : Value × ℕ × List ℕ) → one o octets ≡ Ok x → StopsInEach Is S n x.1 x.2 f → StopsInEach Is S (suc n) o octets f
      later x e s =
          let t = finds o octets x.0 x.1 x.2 e in
          let a = s.2 in
          let place : x.1 + length a.front ≡ o + length (t.front ++ a.front) = omega (arith, t.place, length-append t.front a.front) in (
            value.value x.0 s.0,
            omega (arith, s.1),
            record {
              front = t.front ++ a.front;
              rest = a.rest;
              parts = t.parts ∙ ap (λ r. t.front ++ r) a.parts ∙ sym (append_assoc t.front a.front a.rest);
              first = record { front = t.front; rest = a.front; parts = refl; first = t.holds; second = subst (λ q. Each Is s.0 q a.front) t.place a.first };
              second = subst (λ q. S q a.rest f) place a.second;
            },
          )

pub text_fails : (n : ℕ) → Fails (StopsInText n) (text_at n)
unfolding text_at
text_fails n o octets f (inl h) =
    let some : eqb n 0 ≡ false = ne_eqb _ _ (omega (arith, h.0)) in
    rw (some, taken_fails n o octets f h) refl
text_fails n o octets f (inr (inl h)) =
    let text : List ℕ = h.1 in
    let some : eqb n 0 ≡ false = ne_eqb _ _ (omega (arith, h.5)) in
    let enough : ltb (length octets) n ≡ false = le-ltb _ _ h.0 in
    let behind : take n octets ≡ text ++ 0 ∷ take (n - (length text + 1)) h.2 = cut n text h.2 (omega (arith, h.5)) octets h.3 in
    let nul : to_nul (take n octets) ≡ length text = ap to_nul behind ∙ to_nul-append text _ h.4 in
    let t : ltb (length text) (n - 1) ≡ true = lt-ltb _ _ (omega (arith, h.5)) in
    rw (some, enough, nul, t, h.6) refl
  where
    cut : (n : ℕ) (text rest : List ℕ) → length text + 1 ≤ n → (octets : List ℕ) → octets ≡ text ++ 0 ∷ rest → take n octets ≡ text ++ 0 ∷ take (n - (length text + 1)) rest
    cut n text rest le octets e =
        let m : n ≡ length text + suc (n - (length text + 1)) = omega arith in
        ap (take n) e ∙ ap (λ k. take k (text ++ 0 ∷ rest)) m ∙ take-append-add text (0 ∷ rest) (suc (n - (length text + 1)))
text_fails n o octets f (inr (inr h)) =
    let text : List ℕ = h.1 in
    let some : eqb n 0 ≡ false = ne_eqb _ _ (omega (arith, h.0)) in
    let enough : ltb (length octets) n ≡ false = le-ltb _ _ (omega (arith, h.5, ap length h.3, length-append text h.2)) in
    let all : take n octets ≡ text = ap (take n) h.3 ∙ take_at text h.2 n h.5 in
    let nul : to_nul (take n octets) ≡ n = ap to_nul all ∙ to_nul-clean text h.4 ∙ h.5 in
    let t : ltb n (n - 1) ≡ false = le-ltb _ _ (omega arith) in
    let u : eqb n n ≡ true = eq-eqb n n refl in
    rw (some, enough, nul, t, u, h.6) refl

-- a NUL among the first n octets
nul_in : (n m : ℕ) (octets : List ℕ) → n ≤ length octets → to_nul (take n octets) ≡ m → m + 1 < n → (text : List ℕ) × (rest : List ℕ) × (octets ≡ text ++ 0 ∷ rest) × IsClean text × (length text ≡ m)
nul_in n m octets le at lt =
    let xs = take n octets in
    let long : length xs ≡ n = length-take-le n octets le in
    let h = splits xs (omega arith) in
    let text = take (to_nul xs) xs in
    let more = drop (suc (to_nul xs)) xs in
    let whole : octets ≡ text ++ 0 ∷ (more ++ drop n octets) = sym (take-append-drop n octets) ∙ ap (λ ys. ys ++ drop n octets) h ∙ append_assoc text (0 ∷ more) (drop n octets) in
    (text, more ++ drop n octets, whole, clean_front xs, length-take-le (to_nul xs) xs (omega arith) ∙ at)

full_tells : (n : ℕ) → n ≢ 0 → (o : ℕ) (octets : List ℕ) (f : Fault) → (taken n o octets >>= λ x. text_end n o x.0 x.1 x.2) ≡ Err f → StopsInText n o octets f
full_tells n some o octets f h =
    elim (bind_err (taken n o octets) (λ (x : List ℕ × ℕ × List ℕ). text_end n o x.0 x.1 x.2) f h) [
      | inl e ↦ inl (taken_tells n o octets f e)
      | inr x ↦ judged x.0 x.1 x.2
    ]
  where
    judged : (x : List ℕ × ℕ × List ℕ) → taken n o octets ≡ Ok x → text_end n o x.0 x.1 x.2 ≡ Err f → StopsInText n o octets f
    judged x e g =
        let t = taken_is n o octets x.0 x.1 x.2 e in
        let le : n ≤ length octets = omega (arith, ap length t.0, length-append x.0 x.2, t.1) in
        let first : take n octets ≡ x.0 = ap (take n) t.0 ∙ take_at x.0 x.2 n t.1 in
        elim (test_failed (ltb (to_nul x.0) (n - 1)) (fault_at kind.InteriorNul (o + to_nul x.0)) f _ g) [
          | inl a ↦ (let lt : to_nul x.0 < n - 1 = ltb-true _ _ a.0 in
              let i = nul_in n (to_nul x.0) octets le (ap to_nul first) (omega arith) in
              inr (inl (le, i.0, i.1, i.2, i.3, omega (arith, i.4), a.1 ∙ ap (λ m. fault_at kind.InteriorNul (o + m)) (sym i.4))))
          | inr b ↦ (let k = last_failed (eqb (to_nul x.0) n) (fault_at kind.NoTerminator (o + (n - 1))) f (take (n - 1) x.0, x.1, x.2) b.1 in
              let all : to_nul x.0 ≡ n = eqb-true _ _ k.0 in
              let clean : IsClean (take (to_nul x.0) x.0) = clean_front x.0 in
              let whole : take (to_nul x.0) x.0 ≡ x.0 = ap (λ m. take m x.0) (all ∙ sym t.1) ∙ take_whole x.0 in
              inr (inr (omega arith, x.0, x.2, t.0, subst IsClean whole clean, t.1, k.1)))
        ]
      where
        take_whole : (xs : List ℕ) → take (length xs) xs ≡ xs
        take_whole [] = refl
        take_whole (y ∷ xs) = ap (λ ys. y ∷ ys) (take_whole xs)

pub text_tells : (n : ℕ) → Tells (StopsInText n) (text_at n)
unfolding text_at
text_tells n o octets f h = by (eqb n 0) refl h
  where
    by : (b : Bool) → eqb n 0 ≡ b → cond b (Ok ([], o, octets)) (taken n o octets >>= λ x. text_end n o x.0 x.1 x.2) ≡ Err f → StopsInText n o octets f
    by true e k = absurd cc
    by false e k = full_tells n (eqb-false _ _ e) o octets f k
