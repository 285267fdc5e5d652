-- Keys and messages found by their places.
use Rattle.std.proofs.Common.{◌≡◌, ℕ, suc, ◌+◌, ◌<◌, ◌≢◌, ◌⊎◌, ◌==◌, Bool, true, false, List, [], ◌∷◌, length, get_or, Some, None, is_some, refl, sym, ap, subst, ◌∙◌, inl, inr, arith}
use Rattle.std.specs.List.{position, position_from, remove}
use Rattle.std.proofs.lemmas.Bool.{cases_eq, eq-eqb, ne_eqb}
use Rattle.std.proofs.lemmas.Iterator.Adapters.{position_from-zero}
use Rattle.giop_proxy.specs.declared.passes.coming.Part.{Part}
use Rattle.giop_proxy.specs.declared.passes.keys.Key.{Key}
use Rattle.giop_proxy.specs.declared.passes.keys.Key.TheVariants.{Of11, Of12}
use Rattle.giop_proxy.specs.PassingMessages.{Entry, forgotten, is_key, is_passed, part_in, without}
use Rattle.giop_proxy.specs.PassingPrivate.{coming_at, entries, entry_at}

test_eq : (a b : ℕ) → (((a == b) ≡ true) × (a ≡ b)) ⊎ (((a == b) ≡ false) × (a ≢ b))
test_eq a b = elim (cases_eq a b) [ inl h ↦ inl (eq-eqb a b h, h) | inr h ↦ inr (ne_eqb a b h, h) ]

pub test_key : (j k : Key) → ((is_key j k ≡ true) × (j ≡ k)) ⊎ ((is_key j k ≡ false) × (j ≢ k))
test_key (Of12 i) (Of12 j) = elim (test_eq i j) [ inl t ↦ inl (t.0, ap (λ (n : ℕ). Of12 n) t.1) | inr t ↦ inr (t.0, λ e. t.1 cc) ]
test_key (Of12 i) Of11 = inr (refl, λ e. cc)
test_key Of11 (Of12 j) = inr (refl, λ e. cc)
test_key Of11 Of11 = inl (refl, refl)

-- keys

abbrev pub at_key : Key → Key → Bool
at_key key k = is_key k key

passed_from : (key : Key) (js : List Key) (i : ℕ) → is_some (position_from (at_key key) i js) ≡ is_passed key js
passed_from key [] i = refl
passed_from key (j ∷ js) i = elim (test_key j key) [ inl t ↦ rw t.0 refl | inr t ↦ rw t.0 (passed_from key js (i + 1)) ]

pub place-is_passed : (key : Key) (js : List Key) → is_some (position (at_key key) js) ≡ is_passed key js
place-is_passed key js = ap is_some (position_from-zero (at_key key) js) ∙ passed_from key js 0

forgotten-same : (key j : Key) (js : List Key) → is_key j key ≡ true → forgotten key (j ∷ js) ≡ js
forgotten-same key j js e = rw e refl

forgotten-other : (key j : Key) (js : List Key) → is_key j key ≡ false → forgotten key (j ∷ js) ≡ j ∷ forgotten key js
forgotten-other key j js e = rw e refl

forgotten_at : (key : Key) (js : List Key) (i k : ℕ) → position_from (at_key key) i js ≡ Some k → (n : ℕ) × (k ≡ i + n) × (remove js n ≡ forgotten key js)
forgotten_at key [] i k e = absurd cc
forgotten_at key (j ∷ js) i k e =
    elim (test_key j key) [
      | inl t ↦
          let here : position_from (at_key key) i (j ∷ js) ≡ Some i = rw t.0 refl in
          let same : i ≡ k = cc in
          (0, omega (arith, same), sym (forgotten-same key j js t.0))
      | inr t ↦
          let later : position_from (at_key key) i (j ∷ js) ≡ position_from (at_key key) (i + 1) js = rw t.0 refl in
          let f = forgotten_at key js (i + 1) k (sym later ∙ e) in
          (suc f.0, omega (arith, f.1), ap (λ (xs : List Key). j ∷ xs) f.2 ∙ sym (forgotten-other key j js t.0))
    ]

pub place-forgotten : (key : Key) (js : List Key) (k : ℕ) → position (at_key key) js ≡ Some k → remove js k ≡ forgotten key js
place-forgotten key js k e =
    let f = forgotten_at key js 0 k (sym (position_from-zero (at_key key) js) ∙ e) in
    let same : f.0 ≡ k = omega (arith, f.1) in
    subst (λ (n : ℕ). remove js n ≡ forgotten key js) same f.2

none_at : (key : Key) (js : List Key) (i : ℕ) → position_from (at_key key) i js ≡ None → js ≡ forgotten key js
none_at key [] i e = refl
none_at key (j ∷ js) i e =
    elim (test_key j key) [
      | inl t ↦ absurd (let here : position_from (at_key key) i (j ∷ js) ≡ Some i = rw t.0 refl in cc)
      | inr t ↦
          let later : position_from (at_key key) i (j ∷ js) ≡ position_from (at_key key) (i + 1) js = rw t.0 refl in
          ap (λ (xs : List Key). j ∷ xs) (none_at key js (i + 1) (sym later ∙ e)) ∙ sym (forgotten-other key j js t.0)
    ]

pub place-unforgotten : (key : Key) (js : List Key) → position (at_key key) js ≡ None → js ≡ forgotten key js
place-unforgotten key js e = none_at key js 0 (sym (position_from-zero (at_key key) js) ∙ e)

-- messages

pub head-same : (p : Entry) (ps : List Entry) (i : Key) → p.key ≡ i → part_in (p ∷ ps) i ≡ Some p.message
head-same p ps i e = elim (test_key p.key i) [ inl t ↦ rw t.0 refl | inr t ↦ absurd (t.1 e) ]

pub head-other : (p : Entry) (ps : List Entry) (i : Key) → p.key ≢ i → part_in (p ∷ ps) i ≡ part_in ps i
head-other p ps i e = elim (test_key p.key i) [ inl t ↦ absurd (e t.1) | inr t ↦ rw t.0 refl ]

pub without-same : (i : Key) (p : Entry) (ps : List Entry) → p.key ≡ i → without i (p ∷ ps) ≡ ps
without-same i p ps e = elim (test_key p.key i) [ inl t ↦ rw t.0 refl | inr t ↦ absurd (t.1 e) ]

pub without-other : (i : Key) (p : Entry) (ps : List Entry) → p.key ≢ i → without i (p ∷ ps) ≡ p ∷ without i ps
without-other i p ps e = elim (test_key p.key i) [ inl t ↦ absurd (e t.1) | inr t ↦ rw t.0 refl ]

pub without-none : (i : Key) (ps : List Entry) → part_in ps i ≡ None → without i ps ≡ ps
without-none i [] n = refl
without-none i (p ∷ ps) n =
    elim (test_key p.key i) [
      | inl t ↦ absurd (let k = head-same p ps i t.1 in cc)
      | inr t ↦ without-other i p ps t.1 ∙ ap (λ (qs : List Entry). p ∷ qs) (without-none i ps (sym (head-other p ps i t.1) ∙ n))
    ]

abbrev pub of_key : Key → Part → Bool
of_key key p = is_key p.key key

-- the part at a place is the first of that key
pub record FoundAt (key : Key) (ps : List Part) (k : ℕ) : Type 0 where
  pub below : k < length ps
  pub part : (d : Part) → part_in (entries ps) key ≡ Some (coming_at (get_or ps k d).message)
  pub rest : entries (remove ps k) ≡ without key (entries ps)

found_next : (key : Key) (p : Part) (ps : List Part) (k : ℕ) → ((p.key ≡ key) → ⊥) → FoundAt key ps k → FoundAt key (p ∷ ps) (suc k)
found_next key p ps k n f = record {
  below = omega (arith, f.below);
  part = λ d. head-other (entry_at p) (entries ps) key n ∙ f.part d;
  rest = ap (λ (qs : List Entry). entry_at p ∷ qs) f.rest ∙ sym (without-other key (entry_at p) (entries ps) n);
}

found_here : (key : Key) (p : Part) (ps : List Part) → p.key ≡ key → FoundAt key (p ∷ ps) 0
found_here key p ps e = record {
  below = omega arith;
  part = λ d. head-same (entry_at p) (entries ps) key e;
  rest = sym (without-same key (entry_at p) (entries ps) e);
}

found_from : (key : Key) (ps : List Part) (i k : ℕ) → position_from (of_key key) i ps ≡ Some k → (j : ℕ) × (k ≡ i + j) × FoundAt key ps j
found_from key [] i k e = absurd cc
found_from key (p ∷ ps) i k e =
    elim (test_key p.key key) [
      | inl t ↦
          let here : position_from (of_key key) i (p ∷ ps) ≡ Some i = rw t.0 refl in
          let same : i ≡ k = cc in
          (0, omega (arith, same), found_here key p ps t.1)
      | inr t ↦
          let later : position_from (of_key key) i (p ∷ ps) ≡ position_from (of_key key) (i + 1) ps = rw t.0 refl in
          let f = found_from key ps (i + 1) k (sym later ∙ e) in
          (suc f.0, omega (arith, f.1), found_next key p ps f.0 t.1 f.2)
    ]

none_from : (key : Key) (ps : List Part) (i : ℕ) → position_from (of_key key) i ps ≡ None → part_in (entries ps) key ≡ None
none_from key [] i e = refl
none_from key (p ∷ ps) i e =
    elim (test_key p.key key) [
      | inl t ↦ absurd (let here : position_from (of_key key) i (p ∷ ps) ≡ Some i = rw t.0 refl in cc)
      | inr t ↦
          let later : position_from (of_key key) i (p ∷ ps) ≡ position_from (of_key key) (i + 1) ps = rw t.0 refl in
          head-other (entry_at p) (entries ps) key t.1 ∙ none_from key ps (i + 1) (sym later ∙ e)
    ]

pub place-some : (key : Key) (ps qs : List Part) (k : ℕ) → qs ≡ ps → Some k ≡ position (of_key key) qs → FoundAt key ps k
place-some key ps qs k is e =
    let f = found_from key ps 0 k (sym (position_from-zero (of_key key) ps) ∙ ap (position (of_key key)) (sym is) ∙ sym e) in
    let same : f.0 ≡ k = omega (arith, f.1) in
    subst (FoundAt key ps) same f.2

pub place-none : (key : Key) (ps qs : List Part) → qs ≡ ps → None ≡ position (of_key key) qs → part_in (entries ps) key ≡ None
place-none key ps qs is e = none_from key ps 0 (sym (position_from-zero (of_key key) ps) ∙ ap (position (of_key key)) (sym is) ∙ sym e)
