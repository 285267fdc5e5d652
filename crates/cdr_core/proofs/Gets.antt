-- What is spelled is read, whatever follows: numbers, lengths, texts, and one part after another.
use Rattle.std.proofs.Common.{◌≡◌, ℕ, ◌-◌, ◌+◌, ◌≤◌, false, ltb, eqb, List, [], ◌∷◌, ◌++◌, length, take, drop, length-append, Ok, refl, sym, ap, subst, ◌∙◌, arith, append_assoc, inl, inr}
use Rattle.std.proofs.lemmas.Bool.{le-ltb, ne_eqb}
use Rattle.std.proofs.lemmas.List.{take_at, drop_at, length-drop, drop-append-le}
use Rattle.cdr_core.specs.declared.order.Order.{Order}
use Rattle.cdr_core.specs.Value as value
use Rattle.cdr_core.specs.Value.{Value, Values, count}
use Rattle.cdr_core.specs.Numbers.{padding, number_of}
use Rattle.cdr_core.specs.Reading.{◌>>=◌, Read, taken, part_at, number_at, length_at, text_at, to_nul, each_at}
use Rattle.cdr_core.specs.Spelling.{InTurn, IsNumber, IsText, Each}
use Rattle.cdr_core.proofs.Nul.{to_nul-append}

-- at each front that is A, a reader gives x and goes to the place after it
abbrev pub Gets : {X : Type 0} → (ℕ → List ℕ → Type 0) → (ℕ → List ℕ → Read X) → X → Type 0
Gets A r x = (o : ℕ) (front rest : List ℕ) → A o front → r o (front ++ rest) ≡ Ok (x, o + length front, rest)

module _ {X Y : Type 0} (A B : ℕ → List ℕ → Type 0) (r : ℕ → List ℕ → Read X) (s : X → ℕ → List ℕ → Read Y) (x : X) (y : Y) (first : Gets A r x) (second : Gets B (s x) y) where
  pub in_turn : Gets (InTurn A B) (λ o bytes. r o bytes >>= λ a. s a.0 a.1 a.2) y
  in_turn o bytes rest h =
      let e : bytes ++ rest ≡ h.front ++ (h.rest ++ rest) = ap (λ b. b ++ rest) h.parts ∙ append_assoc h.front h.rest rest in
      let a : r o (bytes ++ rest) ≡ Ok (x, o + length h.front, h.rest ++ rest) = ap (r o) e ∙ first o h.front (h.rest ++ rest) h.first in
      let p : (o + length h.front) + length h.rest ≡ o + length bytes = omega (arith, ap length h.parts, length-append h.front h.rest) in
      ap (λ (t : Read X). t >>= λ a. s a.0 a.1 a.2) a ∙ second (o + length h.front) h.rest rest h.second ∙ ap (λ (q : ℕ). Ok (y, q, rest)) p

pub mapped : {X Y : Type 0} (A : ℕ → List ℕ → Type 0) (r : ℕ → List ℕ → Read X) (x : X) (g : X → Y) → Gets A r x → Gets A (λ o bytes. r o bytes >>= λ a. Ok (g a.0, a.1, a.2)) (g x)
mapped {X = X} A r x g h o front rest a = ap (λ (t : Read X). t >>= λ a. Ok (g a.0, a.1, a.2)) (h o front rest a)

pub taken_gets : (n place : ℕ) (d rest : List ℕ) → length d ≡ n → taken n place (d ++ rest) ≡ Ok (d, place + n, rest)
taken_gets n place d rest h =
    let t : ltb (length (d ++ rest)) n ≡ false = le-ltb _ _ (omega (arith, length-append d rest)) in
    rw (t, take_at d rest n h, drop_at d rest n h) refl

pub number_gets : (order : Order) (n x : ℕ) → Gets (IsNumber order n x) (number_at order n) x
unfolding number_at part_at
number_gets order n x o front rest h =
    let k = padding o n in
    let long : length front ≡ k + n = h.long in
    let d : drop k (front ++ rest) ≡ drop k front ++ rest = drop-append-le k front rest (omega arith) in
    let len : length (drop k front) ≡ n = omega (arith, length-drop k front) in
    let p : (o + k) + n ≡ o + length front = omega arith in
    let a : taken n (o + k) (drop k (front ++ rest)) ≡ Ok (drop k front, (o + k) + n, rest) = ap (taken n (o + k)) d ∙ taken_gets n (o + k) (drop k front) rest len in
    ap (λ (t : Read (List ℕ)). t >>= λ y. Ok (number_of order n y.0, y.1, y.2)) a ∙ ap (λ (q : ℕ). Ok (q, (o + k) + n, rest)) h.gives ∙ ap (λ (q : ℕ). Ok (x, q, rest)) p

pub length_gets : (order : Order) (extra bound n : ℕ) → n - extra ≤ bound → Gets (IsNumber order 4 n) (length_at order extra bound) n
unfolding length_at
length_gets order extra bound n le o front rest h =
    let t : ltb bound (n - extra) ≡ false = le-ltb _ _ le in
    rw (number_gets order 4 n o front rest h, t) refl

pub text_gets : (n : ℕ) (text : List ℕ) → Gets (IsText n text) (text_at n) text
unfolding text_at
text_gets n text o front rest (inl h) =
    let p : o ≡ o + 0 = omega arith in
    rw (h.0, h.1, h.2) (ap (λ (q : ℕ). Ok ([], q, rest)) p)
text_gets n text o front rest (inr h) =
    let all = text ++ 0 ∷ [] in
    let long : length all ≡ n = omega (arith, h.0, length-append text (0 ∷ [])) in
    let zero_not : eqb n 0 ≡ false = ne_eqb _ _ (omega (arith, h.0)) in
    let e : front ++ rest ≡ all ++ rest = ap (λ b. b ++ rest) h.2 in
    let a : taken n o (front ++ rest) ≡ Ok (all, o + n, rest) = ap (taken n o) e ∙ taken_gets n o all rest long in
    let nul : to_nul all ≡ length text = to_nul-append text [] h.1 in
    let t : ltb (length text) (n - 1) ≡ false = le-ltb _ _ (omega (arith, h.0)) in
    let u : eqb (length text) n ≡ false = ne_eqb _ _ (omega (arith, h.0)) in
    let w : take (n - 1) all ≡ text = take_at text (0 ∷ []) (n - 1) (omega (arith, h.0)) in
    let p : o + n ≡ o + length front = omega (arith, long, ap length h.2) in
    rw (zero_not, a, nul, t, u, w) (ap (λ (q : ℕ). Ok (text, q, rest)) p)

pub nothing : {X : Type 0} (x : X) (o : ℕ) (front rest : List ℕ) → front ≡ [] → ◌≡◌ {A = Read X} (Ok (x, o, front ++ rest)) (Ok (x, o + length front, rest))
nothing {X = X} x o front rest h = let p : o ≡ o + 0 = omega arith in subst (λ (b : List ℕ). ◌≡◌ {A = Read X} (Ok (x, o, b ++ rest)) (Ok (x, o + length b, rest))) (sym h) (ap (λ (q : ℕ). Ok (x, q, rest)) p)

module _ (one : ℕ → List ℕ → Read Value) (Is : Value → ℕ → List ℕ → Type 0) (gets : (v : Value) → Gets (Is v) one v) where
  pub each_gets : (vs : Values) → Gets (Each Is vs) (each_at one (count vs)) vs
  unfolding each_at
  each_gets value.no_values o front rest h = nothing value.no_values o front rest h
  each_gets (value.value v vs) o front rest h =
      in_turn (Is v) (Each Is vs) one (λ x o b. each_at one (count vs) o b >>= λ xs. Ok (value.value x xs.0, xs.1, xs.2)) v (value.value v vs) (gets v) (mapped (Each Is vs) (each_at one (count vs)) vs (value.value v) (λ o f r h. each_gets vs o f r h)) o front rest h
