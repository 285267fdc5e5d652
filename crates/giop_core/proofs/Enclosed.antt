-- What an encapsulation holds, step by step.
use Rattle.std.proofs.Common.{◌≡◌, ℕ, List, Ok, Err, refl}
use Rattle.cdr_core.specs.declared.fault.Fault.{Fault}
use Rattle.cdr_core.specs.declared.order.Order.{Order}
use Rattle.cdr_core.specs.Encapsulation.{encapsulated, order_at}
use Rattle.cdr_core.specs.Form.{Form}
use Rattle.cdr_core.specs.Reading.{value_at}
use Rattle.cdr_core.specs.Value.{Value}

module _ (t : Form) (octets : List ℕ) where
  pub order_fails : (f : Fault) → order_at octets ≡ Err f → encapsulated (value_at t) octets ≡ Err f
  unfolding encapsulated
  order_fails f e = rw e refl

  module _ (order : Order) (p : ℕ) (rest : List ℕ) (told : order_at octets ≡ Ok (order, p, rest)) where
    pub value_fails : (f : Fault) → value_at t order p rest ≡ Err f → encapsulated (value_at t) octets ≡ Err f
    unfolding encapsulated
    value_fails f e = rw (told, e) refl

    pub value_is : (v : Value) (q : ℕ) (left : List ℕ) → value_at t order p rest ≡ Ok (v, q, left) → encapsulated (value_at t) octets ≡ Ok v
    unfolding encapsulated
    value_is v q left e = rw (told, e) refl
