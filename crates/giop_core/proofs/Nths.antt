-- The item of a number, as a loop finds it.
use Rattle.std.proofs.Common.{◌≡◌, ◌≢◌, ℕ, zero, suc, ◌+◌, ◌-◌, ◌<◌, ◌≤◌, List, [], ◌∷◌, Option, Some, None, Ok, Err, refl, sym, ap, ◌∙◌, arith}
use Rattle.std.specs.List.{slice_get}
use Rattle.cdr_core.specs.declared.fault.Fault.{Fault}
use Rattle.cdr_core.specs.declared.order.Order.{Order}
use Rattle.cdr_core.specs.Reading.{value_at}
use Rattle.ior_core.specs.Grammar.{tagged}
use Rattle.giop_core.specs.Items.{items_in, tagged_value}
use Rattle.giop_core.proofs.Passing.{items_next, items_none, items_stop}

get_none : (k : ℕ) → slice_get {X = ℕ × List ℕ} [] k ≡ None
get_none zero = refl
get_none (suc k) = refl

module _ (order : Order) (index count i o : ℕ) (octets : List ℕ) (total : Option (ℕ × List ℕ)) (so_far : slice_get (items_in order (count - i) o octets) (index - i) ≡ total) where
  module _ (lt : i < count) (x : ℕ × List ℕ) (p : ℕ) (rest : List ℕ) (read : value_at tagged order o octets ≡ Ok (tagged_value x, p, rest)) where
    step : slice_get (x ∷ items_in order (count - (i + 1)) p rest) (index - i) ≡ total
    step =
        let one : count - i ≡ suc (count - (i + 1)) = omega arith in
        sym (ap (λ xs. slice_get xs (index - i)) (items_next order (count - i) (count - (i + 1)) o octets x p rest read one)) ∙ so_far

    pub nth_here : i ≡ index → Some x ≡ total
    nth_here is =
        let none : index - i ≡ 0 = omega arith in
        sym (ap (slice_get (x ∷ items_in order (count - (i + 1)) p rest)) none) ∙ step

    pub nth_later : i ≤ index → i ≢ index → slice_get (items_in order (count - (i + 1)) p rest) (index - (i + 1)) ≡ total
    nth_later le isnt =
        let one : index - i ≡ suc (index - (i + 1)) = omega arith in
        sym (ap (slice_get (x ∷ items_in order (count - (i + 1)) p rest)) one) ∙ step

  pub nth_nowhere : (f : Fault) → value_at tagged order o octets ≡ Err f → None ≡ total
  nth_nowhere f e =
      let none = items_stop f order (count - i) o octets e in
      sym (ap (λ xs. slice_get xs (index - i)) none ∙ get_none (index - i)) ∙ so_far

  pub nth_nothing : count ≤ i → None ≡ total
  nth_nothing le =
      let end : count - i ≡ 0 = omega arith in
      let none = ap (λ n. items_in order n o octets) end ∙ items_none order o octets in
      sym (ap (λ xs. slice_get xs (index - i)) none ∙ get_none (index - i)) ∙ so_far
