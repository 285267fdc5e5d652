-- What is read in an encapsulation is spelled there, and what is spelled there is read.
use Rattle.std.proofs.Common.{◌≡◌, ℕ, ◌+◌, true, false, List, [], ◌∷◌, ◌++◌, length, Ok, refl, ap, subst, ◌∙◌, arith}
use Rattle.cdr_core.specs.declared.order.Order.{Order}
use Rattle.cdr_core.specs.declared.order.Order.TheVariants.{Big, Little}
use Rattle.cdr_core.specs.Encapsulation.{byte_order, encapsulated, order_at, order_of, IsEncapsulated}
use Rattle.cdr_core.specs.Form as form
use Rattle.cdr_core.specs.Laws.{ReadIsSpelled, SpelledIsRead}
use Rattle.cdr_core.specs.Reading.{◌>>=◌, Read, value_at}
use Rattle.cdr_core.specs.Spelling.{Spells, Takes}
use Rattle.cdr_core.proofs.Steps.{bind_ok, ok_is}
use Rattle.cdr_core.specs.Value as value
use Rattle.cdr_core.specs.Value.{Value}

-- what was read first, and the byte order that it names
pub record Told (octets : List ℕ) (order : Order) (p : ℕ) (rest : List ℕ) : Type 0 where
  pub parts : octets ≡ byte_order order ∷ rest
  pub place : p ≡ 1

pub told : ReadIsSpelled → (octets : List ℕ) (order : Order) (p : ℕ) (rest : List ℕ) → order_at octets ≡ Ok (order, p, rest) → Told octets order p rest
unfolding order_at
told found octets order p rest h =
    let b = bind_ok (value_at form.boolean Big 0 octets) (λ (x : Value × ℕ × List ℕ). Ok (order_of x.0, x.1, x.2)) (order, p, rest) h in
    let x = b.0 in
    subst (λ (t : Order × ℕ × List ℕ). Told octets t.0 t.1 t.2) (ok_is (order_of x.0, x.1, x.2) (order, p, rest) b.2) (by x.0 x.1 x.2 (found form.boolean Big 0 octets x.0 x.1 x.2 b.1))
  where
    by : (v : Value) (p : ℕ) (rest : List ℕ) → Takes (Spells form.boolean Big v) 0 octets p rest → Told octets (order_of v) p rest
    by (value.boolean true) p rest t = record { parts = t.parts ∙ ap (λ f. f ++ rest) t.holds; place = omega (arith, t.place, ap length t.holds) }
    by (value.boolean false) p rest t = record { parts = t.parts ∙ ap (λ f. f ++ rest) t.holds; place = omega (arith, t.place, ap length t.holds) }
    by _ p rest t = absurd t.holds

pub enclosed_found : {X : Type 0} → ReadIsSpelled → (Is : Order → X → ℕ → List ℕ → Type 0) (read : Order → ℕ → List ℕ → Read X)
    → ((order : Order) (o : ℕ) (octets : List ℕ) (x : X) (p : ℕ) (rest : List ℕ) → read order o octets ≡ Ok (x, p, rest) → Takes (Is order x) o octets p rest)
    → (octets : List ℕ) (x : X) → encapsulated read octets ≡ Ok x → IsEncapsulated (λ order. Is order x) octets
unfolding encapsulated
enclosed_found {X} found Is read finds octets x h =
    let b = bind_ok (order_at octets) (λ (o : Order × ℕ × List ℕ). read o.0 o.1 o.2 >>= λ (y : X × ℕ × List ℕ). Ok y.0) x h in
    let o = b.0 in
    let c = bind_ok (read o.0 o.1 o.2) (λ (y : X × ℕ × List ℕ). Ok y.0) x b.2 in
    let y = c.0 in
    let t = told found octets o.0 o.1 o.2 b.1 in
    let is : y.0 ≡ x = ok_is y.0 x c.2 in
    let takes = finds o.0 o.1 o.2 y.0 y.1 y.2 c.1 in
    subst (λ z. IsEncapsulated (λ order. Is order z) octets) is (record {
      order = o.0;
      front = takes.front;
      rest = y.2;
      parts = t.parts ∙ ap (λ r. byte_order o.0 ∷ r) takes.parts;
      holds = subst (λ p. Is o.0 y.0 p takes.front) t.place takes.holds;
    })

pub order_read : SpelledIsRead → (order : Order) (rest : List ℕ) → order_at (byte_order order ∷ rest) ≡ Ok (order, 1, rest)
unfolding order_at
order_read only Big rest = rw (only form.boolean Big (value.boolean false) 0 (0 ∷ []) rest refl) refl
order_read only Little rest = rw (only form.boolean Big (value.boolean true) 0 (1 ∷ []) rest refl) refl

pub enclosed_only : {X : Type 0} → SpelledIsRead → (Is : Order → X → ℕ → List ℕ → Type 0) (read : Order → ℕ → List ℕ → Read X)
    → ((order : Order) (x : X) (o : ℕ) (front rest : List ℕ) → Is order x o front → read order o (front ++ rest) ≡ Ok (x, o + length front, rest))
    → (octets : List ℕ) (x : X) → IsEncapsulated (λ order. Is order x) octets → encapsulated read octets ≡ Ok x
unfolding encapsulated
enclosed_only {X} only Is read reads octets x h = rw (h.parts, order_read only h.order (h.front ++ h.rest), reads h.order x 1 h.front h.rest h.holds) refl
