-- At most one front is a spelling, by any reader that finds each spelling and finds nothing else.
use Rattle.std.proofs.Common.{◌≡◌, ℕ, ◌-◌, ◌+◌, ◌≤◌, List, ◌++◌, length, take, length-append, Ok, refl, sym, ap, subst, ◌∙◌, arith}
use Rattle.std.proofs.lemmas.List.{take_at}
use Rattle.cdr_core.specs.Reading.{Read, value_at}
use Rattle.cdr_core.specs.Spelling.{Spells}
use Rattle.cdr_core.specs.Laws.{OneFront}
use Rattle.cdr_core.proofs.Steps.{ok_is}
use Rattle.cdr_core.proofs.Found.{Finds, found}
use Rattle.cdr_core.proofs.Gets.{Gets}
use Rattle.cdr_core.proofs.Only.{only}

module _ {X : Type 0} (A : X → ℕ → List ℕ → Type 0) (r : ℕ → List ℕ → Read X) (finds : Finds A r) (gets : (x : X) → Gets (A x) r x) where
  pub at_most_one : (o : ℕ) (front rest : List ℕ) (v : X) (other more : List ℕ) (w : X) → front ++ rest ≡ other ++ more → A v o front → A w o other → (v ≡ w) × (front ≡ other)
  at_most_one o front rest v other more w same first second =
      let a = gets v o front rest first in
      let b = gets w o other more second in
      let e : ◌≡◌ {A = Read X} (Ok (v, o + length front, rest)) (Ok (w, o + length other, more)) = sym a ∙ ap (r o) same ∙ b in
      let k : ◌≡◌ {A = X × ℕ × List ℕ} (v, o + length front, rest) (w, o + length other, more) = ok_is (v, o + length front, rest) (w, o + length other, more) e in
      let place : o + length front ≡ o + length other = ap (λ (x : X × ℕ × List ℕ). x.1) k in
      let long : length other ≡ length front = omega arith in
      (ap (λ (x : X × ℕ × List ℕ). x.0) k, sym (take_at front rest (length front) refl) ∙ ap (take (length front)) same ∙ take_at other more (length front) long)

  -- what was read is the front that the length names
  pub front_is : (o : ℕ) (octets : List ℕ) (v : X) (p : ℕ) (rest : List ℕ) (n : ℕ) → r o octets ≡ Ok (v, p, rest) → n ≡ length octets - length rest → (n ≤ length octets) × A v o (take n octets)
  front_is o octets v p rest n e is =
      let h = finds o octets v p rest e in
      let all : length octets ≡ length h.front + length rest = ap length h.parts ∙ length-append h.front rest in
      let long : length h.front ≡ n = omega arith in
      let cut : take n octets ≡ h.front = ap (take n) h.parts ∙ take_at h.front rest n long in
      (omega arith, subst (λ xs. A v o xs) (sym cut) h.holds)

  pub left_over : (o : ℕ) (octets : List ℕ) (v : X) (p : ℕ) (rest : List ℕ) → r o octets ≡ Ok (v, p, rest) → length rest ≤ length octets
  left_over o octets v p rest e =
      let h = finds o octets v p rest e in
      omega (arith, ap length h.parts, length-append h.front rest)

  -- it is the one front that is a spelling
  pub same_front : (o : ℕ) (octets : List ℕ) (v : X) (p : ℕ) (rest : List ℕ) (n : ℕ) → r o octets ≡ Ok (v, p, rest) → n ≡ length octets - length rest → (w : X) (other more : List ℕ) → octets ≡ other ++ more → A w o other → (v ≡ w) × (n ≡ length other)
  same_front o octets v p rest n e is w other more parts s =
      let h = finds o octets v p rest e in
      let k = at_most_one o h.front rest v other more w (sym h.parts ∙ parts) h.holds s in
      let long : length h.front ≡ length other = ap length k.1 in
      let all : length octets ≡ length h.front + length rest = ap length h.parts ∙ length-append h.front rest in
      (k.0, omega arith)

pub one_front : OneFront
one_front t order o front rest v other more w same first second = at_most_one (Spells t order) (value_at t order) (found t order) (only t order) o front rest v other more w same first second
