-- Values that are appended one after another, and what an allocation that failed in between leaves.
use Rattle.std.proofs.Common.{◌≡◌, ℕ, ◌+◌, ◌≤◌, List, [], ◌∷◌, ◌++◌, length, Result, Ok, Err, MatchResult, arith, sym, ap, ◌∙◌, append_assoc, length-append}
use Rattle.cdr_core.specs.declared.order.Order.{Order}
use Rattle.cdr_core.proofs.Appending.{appended, begins, keeps_all, keeps_both, puts_next, puts_none, Stands}
use Rattle.cdr_core.proofs.Steps.{match_as}
use Rattle.cdr_core.specs.Private.{joined, Keeps}
use Rattle.cdr_core.specs.Writing.{Appends, PutsAll, octets_of, octets_of_all, place_in, Puts, Writing}
use Rattle.cdr_core.specs.Encapsulation.{byte_order}
use Rattle.cdr_core.specs.Value as value
use Rattle.cdr_core.specs.Value.{Value, Values, values}

-- where an encapsulation begins
pub enclosed_stands : {order : Order} {w : Writing} {old new : List ℕ} → (new ≡ old ++ byte_order order ∷ []) × (w ≡ record { order = order; at = 1; start = length new }) → Stands w.start old new
enclosed_stands {order} h = (rw h.1 (omega arith), record { more = byte_order order ∷ []; parts = h.0 })

-- a call that appends a value or nothing leaves what there was in front
pub puts_or_keeps : {A E : Type 0} (w : Writing) (v : Value) (r : Result A E) (old new : List ℕ) → Puts w v r old new → MatchResult r (λ _. Appends w v old new) (λ _. Keeps old new)
puts_or_keeps w v (Ok x) old new h = h
puts_or_keeps w v (Err e) old new h = keeps_all old new h

-- a value that was appended, and a second one after it
module _ (w : Writing) (v : Value) (old mid : List ℕ) (first : Appends w v old mid) where
  pub keeps_first : Keeps old mid
  keeps_first = record { more = octets_of w.order v (place_in w old); parts = first }

  module _ (le : w.start ≤ length old) where
    pub start_after : w.start ≤ length mid
    start_after = begins w.start old mid le keeps_first

    pub puts_two : (u : Value) (new : List ℕ) → Appends w u mid new → PutsAll w (values (v ∷ u ∷ [])) old new
    puts_two u new second = puts_next w v (value.value u value.no_values) old mid new le first (puts_next w u value.no_values mid new new start_after second (puts_none w new))

    -- where the second call may fail
    pub puts_second : {A E : Type 0} (u : Value) (new : List ℕ) (r : Result A E) → MatchResult r (λ _. Appends w u mid new) (λ _. Keeps mid new)
        → MatchResult r (λ _. PutsAll w (values (v ∷ u ∷ [])) old new) (λ _. Keeps old new)
    puts_second u new r h = match_as r (λ _. Appends w u mid new) _ (λ _. Keeps mid new) _ (λ _ s. puts_two u new s) (λ _ k. keeps_both old mid new keeps_first k) h

-- values, and then others

octets-joined : (order : Order) (vs ws : Values) (o : ℕ) → octets_of_all order (joined vs ws) o ≡ octets_of_all order vs o ++ octets_of_all order ws (o + length (octets_of_all order vs o))
octets-joined order value.no_values ws o =
    let here : o + 0 ≡ o = omega arith in
    ap (λ p. octets_of_all order ws p) (sym here)
octets-joined order (value.value v vs) ws o =
    let front = octets_of order v o in
    let more = octets_of_all order vs (o + length front) in
    let place : (o + length front) + length more ≡ o + length (front ++ more) = omega (arith, length-append front more) in
    ap (λ xs. front ++ xs) (octets-joined order vs ws (o + length front)) ∙ sym (append_assoc front more (octets_of_all order ws ((o + length front) + length more))) ∙ ap (λ p. (front ++ more) ++ octets_of_all order ws p) place

pub puts_joined : (w : Writing) (vs ws : Values) (old mid new : List ℕ) → w.start ≤ length old → PutsAll w vs old mid → PutsAll w ws mid new → PutsAll w (joined vs ws) old new
puts_joined w vs ws old mid new le first second =
    let o = place_in w old in
    appended w.at w.start old (octets_of_all w.order vs o) mid new (octets_of_all w.order ws) le first second ∙ ap (λ xs. old ++ xs) (sym (octets-joined w.order vs ws o))
