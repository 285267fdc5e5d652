-- What is read is spelled: numbers, lengths, texts, and one part after another.
use Rattle.std.proofs.Common.{◌≡◌, ◌≢◌, ℕ, zero, suc, ◌+◌, ◌-◌, ◌<◌, ◌≤◌, Bool, true, false, cond, ltb, eqb, List, [], ◌∷◌, ◌++◌, length, take, drop, length-append, Ok, refl, sym, ap, subst, ◌∙◌, arith, append_assoc, inl, inr}
use Rattle.std.proofs.lemmas.Bool.{ltb-false, eqb-true, eqb-false}
use Rattle.std.proofs.lemmas.List.{take-append-drop, drop_at, length-take-le, length-drop}
use Rattle.cdr_core.specs.declared.fault.Kind.TheVariants as kind
use Rattle.cdr_core.specs.declared.order.Order.{Order}
use Rattle.cdr_core.specs.declared.order.Order.TheVariants.{Big, Little}
use Rattle.cdr_core.specs.Value as value
use Rattle.cdr_core.specs.Value.{Value, Values, count}
use Rattle.cdr_core.specs.Numbers.{padding, number_of}
use Rattle.cdr_core.specs.Reading.{◌>>=◌, Read, taken, fault, part_at, number_at, length_at, text_at, to_nul, each_at}
use Rattle.cdr_core.specs.Spelling.{InTurn, IsNumber, IsText, Each, Takes}
use Rattle.cdr_core.proofs.Steps.{bind_ok, guard, guard_ok, ok_is}
use Rattle.cdr_core.proofs.Nul.{within, ends}

-- a part, and what follows it
pub in_turn_takes : (A B : ℕ → List ℕ → Type 0) (o : ℕ) (octets : List ℕ) (m : ℕ) (more : List ℕ) (p : ℕ) (rest : List ℕ) → Takes A o octets m more → Takes B m more p rest → Takes (InTurn A B) o octets p rest
in_turn_takes A B o octets m more p rest a b = record {
  front = a.front ++ b.front;
  parts = a.parts ∙ ap (λ r. a.front ++ r) b.parts ∙ sym (append_assoc a.front b.front rest);
  place = omega (arith, a.place, b.place, length-append a.front b.front);
  holds = record { front = a.front; rest = b.front; parts = refl; first = a.holds; second = subst (λ q. B q b.front) a.place b.holds };
}

-- a front that is A is B, where A implies B
pub takes_as : (A B : ℕ → List ℕ → Type 0) (o : ℕ) (octets : List ℕ) (p : ℕ) (rest : List ℕ) → ((front : List ℕ) → A o front → B o front) → Takes A o octets p rest → Takes B o octets p rest
takes_as A B o octets p rest f a = record { front = a.front; parts = a.parts; place = a.place; holds = f a.front a.holds }

pub nothing_takes : (A : ℕ → List ℕ → Type 0) (o : ℕ) (octets : List ℕ) → A o [] → Takes A o octets o octets
nothing_takes A o octets h = record { front = []; parts = refl; place = omega arith; holds = h }

-- n octets that were taken
pub taken_is : (n place : ℕ) (octets : List ℕ) (x : List ℕ) (p : ℕ) (rest : List ℕ) → taken n place octets ≡ Ok (x, p, rest) → (octets ≡ x ++ rest) × (length x ≡ n) × (p ≡ place + n)
taken_is n place octets x p rest h =
    let g = guard_ok (ltb (length octets) n) _ (take n octets, place + n, drop n octets) (x, p, rest) h in
    let le : n ≤ length octets = ltb-false _ _ g.0 in
    let first : take n octets ≡ x = ap (λ (t : List ℕ × ℕ × List ℕ). t.0) g.1 in
    let last : drop n octets ≡ rest = ap (λ (t : List ℕ × ℕ × List ℕ). t.2) g.1 in
    (rw (← first, ← last) (sym (take-append-drop n octets)), ap length (sym first) ∙ length-take-le n octets le, sym (ap (λ (t : List ℕ × ℕ × List ℕ). t.1) g.1))

pub taken_takes : (n o : ℕ) (octets x : List ℕ) (p : ℕ) (rest : List ℕ) → taken n o octets ≡ Ok (x, p, rest) → Takes (λ _ front. front ≡ x) o octets p rest
taken_takes n o octets x p rest h =
    let t = taken_is n o octets x p rest h in
    record { front = x; parts = t.0; place = t.2 ∙ ap (λ m. o + m) (sym t.1); holds = refl }

pub number_takes : (order : Order) (n : ℕ) → 0 < n → (o : ℕ) (octets : List ℕ) (x p : ℕ) (rest : List ℕ) → number_at order n o octets ≡ Ok (x, p, rest) → Takes (IsNumber order n x) o octets p rest
unfolding number_at part_at
number_takes order n some o octets x p rest h =
    let k = padding o n in
    let b = bind_ok (part_at n o octets) (λ (y : List ℕ × ℕ × List ℕ). Ok (number_of order n y.0, y.1, y.2)) (x, p, rest) h in
    let d : List ℕ = b.0.0 in
    let t = taken_is n (o + k) (drop k octets) d b.0.1 b.0.2 b.1 in
    let e = ok_is (number_of order n d, b.0.1, b.0.2) (x, p, rest) b.2 in
    let last : b.0.2 ≡ rest = ap (λ (t : ℕ × ℕ × List ℕ). t.2) e in
    let left : length octets - k ≡ n + length (b.0.2) = sym (length-drop k octets) ∙ ap length t.0 ∙ length-append d b.0.2 ∙ ap (λ m. m + length (b.0.2)) t.1 in
    let long : length (take k octets) ≡ k = length-take-le k octets (omega arith) in
    let cut : drop k (take k octets ++ d) ≡ d = drop_at (take k octets) d k long in
    record {
      front = take k octets ++ d;
      parts = sym (take-append-drop k octets) ∙ ap (λ r. take k octets ++ r) t.0 ∙ sym (append_assoc (take k octets) d b.0.2) ∙ ap (λ r. (take k octets ++ d) ++ r) last;
      place = sym (ap (λ (t : ℕ × ℕ × List ℕ). t.1) e) ∙ t.2 ∙ omega (arith, length-append (take k octets) d, t.1);
      holds = record { long = omega (arith, length-append (take k octets) d, t.1); gives = ap (number_of order n) cut ∙ ap (λ (t : ℕ × ℕ × List ℕ). t.0) e };
    }

-- the number of one octet is that octet
one_octet : (order : Order) (x : ℕ) → number_of order 1 (x ∷ []) ≡ x
one_octet Big x = omega arith
one_octet Little x = omega arith

no_padding : (o : ℕ) → padding o 1 ≡ 0
no_padding o = omega arith

pub octet_is : (order : Order) (x o : ℕ) → IsNumber order 1 x o (x ∷ [])
octet_is order x o =
    let k = no_padding o in
    record { long = rw k refl; gives = ap (λ m. number_of order 1 (drop m (x ∷ []))) k ∙ one_octet order x }

pub single : (order : Order) (x o : ℕ) (front : List ℕ) → IsNumber order 1 x o front → front ≡ x ∷ []
single order x o [] h = let k = no_padding o in let long = h.long in absurd (omega arith)
single order x o (y ∷ []) h =
    let is : y ≡ x = sym (one_octet order y) ∙ ap (λ m. number_of order 1 (drop m (y ∷ []))) (sym (no_padding o)) ∙ h.gives in
    ap (λ z. z ∷ []) is
single order x o (y ∷ z ∷ front) h = let k = no_padding o in let long = h.long in absurd (omega arith)

-- a length that isn't over the bound
pub length_takes : (order : Order) (extra bound o : ℕ) (octets : List ℕ) (n p : ℕ) (rest : List ℕ) → length_at order extra bound o octets ≡ Ok (n, p, rest) → Takes (IsNumber order 4 n) o octets p rest × (n - extra ≤ bound)
unfolding length_at
length_takes order extra bound o octets n p rest h =
    let b = bind_ok (number_at order 4 o octets) (λ (x : ℕ × ℕ × List ℕ). cond (ltb bound (x.0 - extra)) (fault kind.OverBound (o + padding o 4)) (Ok x)) (n, p, rest) h in
    let g = guard_ok (ltb bound (b.0.0 - extra)) _ b.0 (n, p, rest) b.2 in
    let first : b.0.0 ≡ n = ap (λ (t : ℕ × ℕ × List ℕ). t.0) g.1 in
    let le : b.0.0 - extra ≤ bound = ltb-false _ _ g.0 in
    (subst (λ (t : ℕ × ℕ × List ℕ). Takes (IsNumber order 4 t.0) o octets t.1 t.2) g.1 (number_takes order 4 (omega arith) o octets b.0.0 b.0.1 b.0.2 b.1), omega arith)

-- the text in octets that are all there
abbrev pub text_end : ℕ → ℕ → List ℕ → ℕ → List ℕ → Read (List ℕ)
text_end n o octets p rest = cond (ltb (to_nul octets) (n - 1)) (fault kind.InteriorNul (o + to_nul octets)) (cond (eqb (to_nul octets) n) (fault kind.NoTerminator (o + (n - 1))) (Ok (take (n - 1) octets, p, rest)))

full_text : (n o : ℕ) (octets text : List ℕ) (p : ℕ) (rest : List ℕ) → n ≢ 0 → (taken n o octets >>= λ x. text_end n o x.0 x.1 x.2) ≡ Ok (text, p, rest) → Takes (IsText n text) o octets p rest × (length text ≤ n - 1)
full_text n o octets text p rest some h =
    let b = bind_ok (taken n o octets) (λ (x : List ℕ × ℕ × List ℕ). text_end n o x.0 x.1 x.2) (text, p, rest) h in
    let xs : List ℕ = b.0.0 in
    let t = taken_is n o octets xs b.0.1 b.0.2 b.1 in
    let g = guard (ltb (to_nul xs) (n - 1)) _ _ (text, p, rest) b.2 in
    let k = guard_ok (eqb (to_nul xs) n) _ (take (n - 1) xs, b.0.1, b.0.2) (text, p, rest) g.1 in
    let low : n - 1 ≤ to_nul xs = ltb-false _ _ g.0 in
    let high : to_nul xs ≤ length xs = within xs in
    let not_all : to_nul xs ≢ n = eqb-false _ _ k.0 in
    let at : to_nul xs ≡ n - 1 = omega (arith, t.1) in
    let all : length xs ≡ suc (n - 1) = omega (arith, t.1) in
    let e = ends xs (n - 1) all at in
    let long : length (take (n - 1) xs) ≡ n - 1 = length-take-le (n - 1) xs (omega arith) in
    let whole : Takes (IsText n (take (n - 1) xs)) o octets b.0.1 b.0.2 = record {
      front = xs;
      parts = t.0;
      place = t.2 ∙ ap (λ m. o + m) (sym t.1);
      holds = inr (omega arith, e.1, e.0);
    } in
    let first : take (n - 1) xs ≡ text = ap (λ (z : List ℕ × ℕ × List ℕ). z.0) k.1 in
    (subst (λ (z : List ℕ × ℕ × List ℕ). Takes (IsText n z.0) o octets z.1 z.2) k.1 whole, omega (arith, ap length first))

pub text_takes : (n o : ℕ) (octets text : List ℕ) (p : ℕ) (rest : List ℕ) → text_at n o octets ≡ Ok (text, p, rest) → Takes (IsText n text) o octets p rest × (length text ≤ n - 1)
unfolding text_at
text_takes n o octets text p rest h = by (eqb n 0) refl h
  where
    by : (b : Bool) → eqb n 0 ≡ b → cond b (Ok ([], o, octets)) (taken n o octets >>= λ x. text_end n o x.0 x.1 x.2) ≡ Ok (text, p, rest) → Takes (IsText n text) o octets p rest × (length text ≤ n - 1)
    by true e k =
        let none : Takes (IsText n []) o octets o octets = nothing_takes (IsText n []) o octets (inl (eqb-true _ _ e, refl, refl)) in
        let is = ok_is ([], o, octets) (text, p, rest) k in
        let empty : [] ≡ text = ap (λ (z : List ℕ × ℕ × List ℕ). z.0) is in
        (subst (λ (z : List ℕ × ℕ × List ℕ). Takes (IsText n z.0) o octets z.1 z.2) is none, omega (arith, ap length empty))
    by false e k = full_text n o octets text p rest (eqb-false _ _ e) k

-- values of one type, one after another
module _ (one : ℕ → List ℕ → Read Value) (Is : Value → ℕ → List ℕ → Type 0) (finds : (o : ℕ) (octets : List ℕ) (v : Value) (p : ℕ) (rest : List ℕ) → one o octets ≡ Ok (v, p, rest) → Takes (Is v) o octets p rest) where
  pub each_takes : (n o : ℕ) (octets : List ℕ) (vs : Values) (p : ℕ) (rest : List ℕ) → each_at one n o octets ≡ Ok (vs, p, rest) → Takes (Each Is vs) o octets p rest × (count vs ≡ n)
  unfolding each_at
  each_takes zero o octets vs p rest h =
      subst (λ (z : Values × ℕ × List ℕ). Takes (Each Is z.0) o octets z.1 z.2 × (count z.0 ≡ 0)) (ok_is (value.no_values, o, octets) (vs, p, rest) h) (nothing_takes (Each Is value.no_values) o octets refl, refl)
  each_takes (suc n) o octets vs p rest h =
      let b = bind_ok (one o octets) (λ (x : Value × ℕ × List ℕ). each_at one n x.1 x.2 >>= λ xs. Ok (value.value x.0 xs.0, xs.1, xs.2)) (vs, p, rest) h in
      let m = bind_ok (each_at one n b.0.1 b.0.2) (λ (xs : Values × ℕ × List ℕ). Ok (value.value b.0.0 xs.0, xs.1, xs.2)) (vs, p, rest) b.2 in
      let first = finds o octets b.0.0 b.0.1 b.0.2 b.1 in
      let others = each_takes n b.0.1 b.0.2 m.0.0 m.0.1 m.0.2 m.1 in
      let both = in_turn_takes (Is b.0.0) (Each Is m.0.0) o octets b.0.1 b.0.2 m.0.1 m.0.2 first others.0 in
      subst (λ (z : Values × ℕ × List ℕ). Takes (Each Is z.0) o octets z.1 z.2 × (count z.0 ≡ suc n)) (ok_is (value.value b.0.0 m.0.0, m.0.1, m.0.2) (vs, p, rest) m.2) (both, ap suc others.1)
