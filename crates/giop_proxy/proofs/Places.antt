-- In 1.0 and 1.1 the body of a Request may stand at every place.
use Rattle.std.proofs.Common.{◌≡◌, inl, inr, ℕ, ◌+◌, ◌%◌, Bool, true, false, List, [], ◌∷◌, ◌++◌, length, Option, Some, IsSome, refl, ap, ◌∙◌, arith, length-append}
use Rattle.std.proofs.lemmas.Bool.{eq-eqb}
use Rattle.std.proofs.lemmas.List.{length-replicate}
use Rattle.cdr_core.specs.declared.order.Order.{Order}
use Rattle.cdr_core.specs.Numbers.{padding}
use Rattle.cdr_core.specs.Parts.{ulong_value}
use Rattle.cdr_core.specs.Value as value
use Rattle.cdr_core.specs.Value.{Value, Values, values}
use Rattle.cdr_core.specs.Writing.{number_octets, octets_of_all}
use Rattle.cdr_core.proofs.Appending.{octets-last}
use Rattle.cdr_core.proofs.Lengths.{number_length}
use Rattle.cdr_core.proofs.Turns.{with_last}
use Rattle.giop_core.specs.declared.header.Version.TheVariants.{V10, V11, V12}
use Rattle.giop_core.specs.declared.request.ReplyWish.{ReplyWish}
use Rattle.giop_core.specs.Items.{list_value}
use Rattle.giop_core.specs.Written.{response_expected, zeros}
use Rattle.giop_frames.proofs.Deciding.{test_eq}
use Rattle.giop_proxy.specs.Placing.{end_of, fields_at, principal_for, request_for, wish_in}
use Rattle.giop_proxy.specs.PlacingLaws.{RequestsHavePlaces}
use Rattle.giop_proxy.proofs.Choosing.{first_chosen, second_chosen, request_shifts_10, request_shifts_11}
use Rattle.giop_proxy.proofs.Shifted.{first_more}

-- fields that end with a principal end behind it, which begins at a multiple of 4

abbrev pub behind_length : Order → Values → ℕ
behind_length order front = (12 + length (octets_of_all order front 12)) + (padding (12 + length (octets_of_all order front 12)) 4 + 4)

pub behind_whole : (order : Order) (front : Values) → behind_length order front % 4 ≡ 0
behind_whole order front = whole (12 + length (octets_of_all order front 12))
  where
    whole : (n : ℕ) → (n + (padding n 4 + 4)) % 4 ≡ 0
    whole n = omega arith

pub principal_ends : (order : Order) (front : Values) (principal : List ℕ) → 12 + length (octets_of_all order (with_last front (value.octets principal)) 12) ≡ behind_length order front + length principal
principal_ends order front principal =
    let before = octets_of_all order front 12 in
    let o = 12 + length before in
    let counted = number_octets order 4 o (length principal) in
    omega (arith, ap length (octets-last order front (value.octets principal) 12), length-append before (counted ++ principal), length-append counted principal, number_length order 4 o (length principal))

-- without the context that says nothing, or with it

turn : (q place e : ℕ) → q % 4 ≡ 0 → e ≡ q + place % 4 → (e % 8 ≡ place % 8 → ⊥) → (e + 12) % 8 ≡ place % 8
turn q place e whole is not = omega (arith, whole, is, not)

pub principal_size : (place x : ℕ) (xs : List ℕ) → length (principal_for place (x ∷ xs)) ≡ place % 4
principal_size place x xs = length-replicate {A = ℕ} (place % 4) 0

module _ (order : Order) (id : ℕ) (wish : ReplyWish) (key operation : List ℕ) (contexts : List (ℕ × List ℕ)) (place : ℕ) where
  abbrev at_10 : List ℕ → Bool → List Value
  at_10 body padded = request_for V10 id wish key operation contexts place body padded

  abbrev at_11 : List ℕ → Bool → List Value
  at_11 body padded = request_for V11 id wish key operation contexts place body padded

  some : (o : Option (List Value)) (fs : List Value) → o ≡ Some fs → IsSome o
  some o fs e = rw e refl

  place_10 : (body : List ℕ) → IsSome (fields_at V10 order place body (at_10 body))
  place_10 [] = refl
  place_10 (x ∷ xs) =
      let body = x ∷ xs in
      let w = wish_in V10 wish in
      let principal = principal_for place body in
      let e = end_of order (at_10 body false) in
      let front = values (list_value contexts ∷ ulong_value id ∷ value.boolean (response_expected w) ∷ value.octets key ∷ value.string operation ∷ []) in
      let ends : e ≡ behind_length order front + place % 4 = omega (arith, principal_ends order front principal, principal_size place x xs) in
      let later : end_of order (at_10 body true) ≡ e + 12 = omega (arith, first_more order contexts 0x4c52_0000 0 0 0 0 id (value.boolean (response_expected w) ∷ value.octets key ∷ value.string operation ∷ value.octets principal ∷ []) 12 (request_shifts_10 order contexts id w key operation principal)) in
      elim (test_eq (e % 8) (place % 8)) [
        | inl t ↦ some (fields_at V10 order place body (at_10 body)) (at_10 body false) (first_chosen V10 order place body (at_10 body) t.0)
        | inr t ↦
            let other : end_of order (at_10 body true) % 8 ≡ place % 8 = ap (λ (n : ℕ). n % 8) later ∙ turn (behind_length order front) place e (behind_whole order front) ends t.1 in
            some (fields_at V10 order place body (at_10 body)) (at_10 body true) (second_chosen V10 order place body (at_10 body) t.0 (eq-eqb (end_of order (at_10 body true) % 8) (place % 8) other))
      ]

  place_11 : (body : List ℕ) → IsSome (fields_at V11 order place body (at_11 body))
  place_11 [] = refl
  place_11 (x ∷ xs) =
      let body = x ∷ xs in
      let w = wish_in V11 wish in
      let principal = principal_for place body in
      let e = end_of order (at_11 body false) in
      let front = values (list_value contexts ∷ ulong_value id ∷ value.boolean (response_expected w) ∷ zeros ∷ value.octets key ∷ value.string operation ∷ []) in
      let ends : e ≡ behind_length order front + place % 4 = omega (arith, principal_ends order front principal, principal_size place x xs) in
      let later : end_of order (at_11 body true) ≡ e + 12 = omega (arith, first_more order contexts 0x4c52_0000 0 0 0 0 id (value.boolean (response_expected w) ∷ zeros ∷ value.octets key ∷ value.string operation ∷ value.octets principal ∷ []) 12 (request_shifts_11 order contexts id w key operation principal)) in
      elim (test_eq (e % 8) (place % 8)) [
        | inl t ↦ some (fields_at V11 order place body (at_11 body)) (at_11 body false) (first_chosen V11 order place body (at_11 body) t.0)
        | inr t ↦
            let other : end_of order (at_11 body true) % 8 ≡ place % 8 = ap (λ (n : ℕ). n % 8) later ∙ turn (behind_length order front) place e (behind_whole order front) ends t.1 in
            some (fields_at V11 order place body (at_11 body)) (at_11 body true) (second_chosen V11 order place body (at_11 body) t.0 (eq-eqb (end_of order (at_11 body true) % 8) (place % 8) other))
      ]

pub requests_placed : RequestsHavePlaces
requests_placed V10 order id wish key operation contexts place body not = place_10 order id wish key operation contexts place body
requests_placed V11 order id wish key operation contexts place body not = place_11 order id wish key operation contexts place body
requests_placed V12 order id wish key operation contexts place body not = absurd (not refl)
