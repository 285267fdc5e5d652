-- Which fault octets have as an encapsulation.
use Rattle.std.proofs.Common.{◌≡◌, ℕ, ◌<◌, List, [], ◌∷◌, length, Ok, Err, refl, subst, arith, inl, inr}
use Rattle.cdr_core.specs.declared.fault.Fault.{Fault}
use Rattle.cdr_core.specs.declared.order.Order.{Order}
use Rattle.cdr_core.specs.declared.order.Order.TheVariants.{Big}
use Rattle.cdr_core.specs.Encapsulation.{encapsulated, order_at, order_of, StopsAtOrder, StopsEncapsulated}
use Rattle.cdr_core.specs.Form as form
use Rattle.cdr_core.specs.Laws.{ByteOrderIsRead, ByteOrderStops, EncapsulatedStops}
use Rattle.cdr_core.specs.Reading.{◌>>=◌, Read, value_at}
use Rattle.cdr_core.specs.Stopping.{Stops}
use Rattle.cdr_core.proofs.Enclosing.{order_read, told}
use Rattle.cdr_core.proofs.Found.{found}
use Rattle.cdr_core.proofs.Only.{only}
use Rattle.cdr_core.proofs.Steps.{bind_err, ended_ok}
use Rattle.cdr_core.proofs.Stopped.{Fails, Tells}
use Rattle.cdr_core.proofs.Stops.{fails, tells}

pub byte_order_read : ByteOrderIsRead
byte_order_read order rest = order_read only order rest

none_left : (octets : List ℕ) → length octets < 1 → octets ≡ []
none_left [] lt = refl
none_left (x ∷ octets) lt = absurd (omega arith)

order_tells : (octets : List ℕ) (f : Fault) → order_at octets ≡ Err f → StopsAtOrder octets f
unfolding order_at
order_tells octets f h = by (tells form.boolean Big 0 octets f (ended_ok (value_at form.boolean Big 0 octets) (λ x. (order_of x.0, x.1, x.2)) f h))
  where
    by : Stops form.boolean Big 0 octets f → StopsAtOrder octets f
    by (inl s) = inl (none_left octets s.0, s.1)
    by (inr s) = inr s

order_fails : (octets : List ℕ) (f : Fault) → StopsAtOrder octets f → order_at octets ≡ Err f
unfolding order_at
order_fails octets f h = rw (fails form.boolean Big 0 octets f (by h)) refl
  where
    by : StopsAtOrder octets f → Stops form.boolean Big 0 octets f
    by (inl s) = inl (rw (s.0) (omega arith), s.1)
    by (inr s) = inr s

pub byte_order_stops : ByteOrderStops
byte_order_stops octets f = (order_tells octets f, order_fails octets f)

-- the reader of what follows the byte order has that fault
module _ {X : Type 0} (S : Order → ℕ → List ℕ → Fault → Type 0) (read : Order → ℕ → List ℕ → Read X) (octets : List ℕ) (f : Fault) where
  pub enclosed_tells : ((order : Order) → Tells (S order) (read order)) → encapsulated read octets ≡ Err f → StopsEncapsulated S octets f
  unfolding encapsulated
  enclosed_tells tell h =
      elim (bind_err (order_at octets) (λ (o : Order × ℕ × List ℕ). read o.0 o.1 o.2 >>= λ (x : X × ℕ × List ℕ). Ok x.0) f h) [
        | inl e ↦ inl (order_tells octets f e)
        | inr x ↦ (let order = x.0.0 in
            let t = told found octets order x.0.1 x.0.2 x.1 in
            inr (order, x.0.2, t.parts, subst (λ p. S order p x.0.2 f) t.place (tell order x.0.1 x.0.2 f (ended_ok (read order x.0.1 x.0.2) (λ (y : X × ℕ × List ℕ). y.0) f x.2))))
      ]

  pub enclosed_fails : ((order : Order) → Fails (S order) (read order)) → StopsEncapsulated S octets f → encapsulated read octets ≡ Err f
  unfolding encapsulated
  enclosed_fails fail (inl h) = rw (order_fails octets f h) refl
  enclosed_fails fail (inr h) = rw (h.2, order_read only h.0 h.1, fail h.0 1 h.1 f h.3) refl

pub encapsulated_stops : EncapsulatedStops
encapsulated_stops t octets f = (enclosed_tells (Stops t) (value_at t) octets f (tells t), enclosed_fails (Stops t) (value_at t) octets f (fails t))
