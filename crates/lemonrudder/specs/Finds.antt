-- Octets that are read where they lie in those of the caller.
use Rattle.std.specs.Prelude.{◌≡◌, ℕ, ◌+◌, ◌≤◌, ℤ, pos, List, [], ◌∷◌, length, take, drop, Option, Some, None, Result, Ok, Err}
use Rattle.std.specs.Borrow.{Bor}
use Rattle.cdr_core.specs.declared.order.Order.{Order}
use Rattle.cdr_core.specs.Numbers.{padding}
use Rattle.cdr_core.specs.Value as value
use Rattle.cdr_core.specs.Value.{Value}
use Rattle.lemonrudder.specs.declared.cdr.Place.{Place}
use Rattle.lemonrudder.specs.declared.refusal.Refusal.{Refusal}
use Rattle.lemonrudder.specs.declared.refusal.Refusal.TheVariants as refusal
use Rattle.lemonrudder.specs.Naming.{order_named, order_number}
use Rattle.lemonrudder.specs.Refusals.{error_number}

-- where octets begin that follow their length: past its padding and its four octets
abbrev pub behind_length : Place → ℕ
behind_length place = place.next + (padding (place.at + place.next) 4 + 4)

-- octets lie in others, from an index on
abbrev pub LiesAt : ℕ → (part octets : List ℕ) → Type 0
LiesAt start part octets = (start + length part ≤ length octets) × (take (length part) (drop start octets) ≡ part)

-- octets that say the value lie after their length, and the place goes after the value; or it is as it was, and why is said
abbrev pub Lends : (List ℕ → Value) → Result (Value × Place) Refusal → List ℕ → (place after : Place) → Result (ℕ × Bor (List ℕ)) Refusal → Type 0
Lends view (Ok x) octets place after (Ok found) = (after ≡ x.1) × (view found.1.now ≡ x.0) × (found.0 ≡ behind_length place) × LiesAt found.0 found.1.now octets
Lends view (Err e) octets place after (Err f) = (f ≡ e) × (after ≡ place)
Lends view read octets place after result = ⊥

-- it is reported where octets that say the value lie, after their length, and how many they are, and the place goes after the
-- value; or all is as it was
abbrev pub Finds : (List ℕ → Value) → Result (Value × Place) Refusal → List ℕ → (place after : Place) → (start new_start size new_size : ℕ) → ℤ → Type 0
Finds view (Ok x) octets place after start new_start size new_size answer = (answer ≡ pos 0) × (after ≡ x.1) × (new_start ≡ behind_length place) × ((part : List ℕ) × (view part ≡ x.0) × (new_size ≡ length part) × LiesAt new_start part octets)
Finds view (Err e) octets place after start new_start size new_size answer = (answer ≡ error_number e) × (after ≡ place) × (new_start ≡ start) × (new_size ≡ size)

-- CDR 9.3.3: the order that the first octet of an encapsulation names
abbrev pub order_by : Option Order → Result Order Refusal
order_by (Some order) = Ok order
order_by None = Err refusal.Value

abbrev pub order_in : List ℕ → Result Order Refusal
order_in [] = Err refusal.Short
order_in (x ∷ octets) = order_by (order_named x)

-- the place in an encapsulation after that octet
abbrev pub inside : Order → Place
inside order = record { at = 0; next = 1; order = order_number order; reserved = 0 }

-- nothing is entered: all is as it was
abbrev pub Stays : Refusal → (place after : Place) → (start new_start size new_size : ℕ) → (inner new_inner : Place) → ℤ → Type 0
Stays e place after start new_start size new_size inner new_inner answer = (answer ≡ error_number e) × (after ≡ place) × (new_start ≡ start) × (new_size ≡ size) × (new_inner ≡ inner)

-- an encapsulation of these octets is entered in the order that it names, if it names one
abbrev pub EntersIn : Result Order Refusal → (part octets : List ℕ) → (behind place after : Place) → (start new_start size new_size : ℕ) → (inner new_inner : Place) → ℤ → Type 0
EntersIn (Ok order) part octets behind place after start new_start size new_size inner new_inner answer = (answer ≡ pos 0) × (after ≡ behind) × (new_start ≡ behind_length place) × (new_size ≡ length part) × LiesAt new_start part octets × (new_inner ≡ inside order)
EntersIn (Err e) part octets behind place after start new_start size new_size inner new_inner answer = Stays e place after start new_start size new_size inner new_inner answer

-- a sequence of octets is read, and entered as an encapsulation; or all is as it was
abbrev pub Enters : Result (Value × Place) Refusal → List ℕ → (place after : Place) → (start new_start size new_size : ℕ) → (inner new_inner : Place) → ℤ → Type 0
Enters (Ok x) octets place after start new_start size new_size inner new_inner answer = (part : List ℕ) × (value.octets part ≡ x.0) × EntersIn (order_in part) part octets x.1 place after start new_start size new_size inner new_inner answer
Enters (Err e) octets place after start new_start size new_size inner new_inner answer = Stays e place after start new_start size new_size inner new_inner answer
