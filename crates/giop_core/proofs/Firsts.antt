-- The first item of an id, as a loop finds it.
use Rattle.std.proofs.Common.{◌≡◌, ◌≢◌, ℕ, suc, ◌+◌, ◌-◌, ◌<◌, ◌≤◌, ◌==◌, Bool, true, false, cond, List, Option, Some, None, Ok, Err, refl, sym, ap, ◌∙◌, arith}
use Rattle.std.proofs.lemmas.Bool.Decides.{Decides-eqb}
use Rattle.cdr_core.specs.declared.fault.Fault.{Fault}
use Rattle.cdr_core.specs.declared.order.Order.{Order}
use Rattle.cdr_core.specs.Reading.{value_at}
use Rattle.ior_core.specs.Grammar.{tagged}
use Rattle.giop_core.specs.Ft.{first_of}
use Rattle.giop_core.specs.Items.{items_in, tagged_value}
use Rattle.giop_core.proofs.Passing.{items_next, items_none, items_stop}

module _ (order : Order) (id count i o : ℕ) (octets : List ℕ) (total : Option (List ℕ)) (so_far : first_of id (items_in order (count - i) o octets) ≡ total) where
  module _ (lt : i < count) (x : ℕ × List ℕ) (p : ℕ) (rest : List ℕ) (read : value_at tagged order o octets ≡ Ok (tagged_value x, p, rest)) where
    step : cond (x.0 == id) (Some x.1) (first_of id (items_in order (count - (i + 1)) p rest)) ≡ total
    step =
        let one : count - i ≡ suc (count - (i + 1)) = omega arith in
        sym (ap (first_of id) (items_next order (count - i) (count - (i + 1)) o octets x p rest read one)) ∙ so_far

    pub found_here : x.0 ≡ id → Some x.1 ≡ total
    found_here is =
        let yes : (x.0 == id) ≡ true = (Decides-eqb x.0 id).1 is in
        rw yes at step

    pub found_later : x.0 ≢ id → first_of id (items_in order (count - (i + 1)) p rest) ≡ total
    found_later isnt = rw (no (x.0 == id) (Decides-eqb x.0 id).0) at step
      where
        no : (b : Bool) → (b ≡ true → x.0 ≡ id) → b ≡ false
        no false h = refl
        no true h = absurd (isnt (h refl))

  pub found_nowhere : (f : Fault) → value_at tagged order o octets ≡ Err f → None ≡ total
  found_nowhere f e = sym (ap (first_of id) (items_stop f order (count - i) o octets e)) ∙ so_far

  pub found_nothing : count ≤ i → None ≡ total
  found_nothing le =
      let none : count - i ≡ 0 = omega arith in
      sym (ap (first_of id) (ap (λ n. items_in order n o octets) none ∙ items_none order o octets)) ∙ so_far
