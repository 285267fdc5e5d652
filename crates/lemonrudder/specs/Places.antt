-- Where reading and writing stand in octets of the caller, and what a call there answers and leaves.
use Rattle.std.specs.Prelude.{◌≡◌, ℕ, ◌+◌, ◌-◌, ◌^◌, ℤ, pos, nat_lt, not, ◌&&◌, ◌==◌, true, false, if◌then◌else◌, List, ◌++◌, length, replicate, take, drop, Option, Some, None, Result, Ok, Err}
use Rattle.cdr_core.specs.declared.order.Order.{Order}
use Rattle.cdr_core.specs.declared.order.Order.TheVariants.{Big, Little}
use Rattle.cdr_core.specs.Cursor.{Position}
use Rattle.cdr_core.specs.Numbers.{digits_of, padding}
use Rattle.cdr_core.specs.Parts.{octet_value}
use Rattle.cdr_core.specs.Reading.{Read}
use Rattle.cdr_core.specs.Value as value
use Rattle.cdr_core.specs.Value.{Value}
use Rattle.cdr_core.specs.Writing.{octets_of}
use Rattle.lemonrudder.specs.declared.cdr.Place.{Place}
use Rattle.lemonrudder.specs.declared.refusal.Refusal.{Refusal}
use Rattle.lemonrudder.specs.declared.refusal.Refusal.TheVariants.{Long, Range, Room}
use Rattle.lemonrudder.specs.Naming.{order_named, by_order}
use Rattle.lemonrudder.specs.Refusals.{error_number, refusal_of_fault}

-- the place of the next octet and the octets from there on, in an order that has a name
abbrev pub standing : Place → List ℕ → Option Order → Result Position Refusal
standing place octets None = Err Range
standing place octets (Some order) = Ok (record { order = order; place = place.at + place.next; rest = drop place.next octets })

-- where a place stands in octets: it lies in them and below 2^32
abbrev pub position_at : Place → List ℕ → Result Position Refusal
position_at place octets = if nat_lt (place.at + place.next) (2 ^ 32) then (if nat_lt (length octets) place.next then Err Range else standing place octets (order_named place.order)) else Err Range

-- the place before the octets that are left
abbrev pub before : Place → List ℕ → List ℕ → Place
before place octets rest = record place { next = length octets - length rest }

-- what was read, and the place after it; or the number of its fault
abbrev pub outcome : {Y : Type 0} → Place → List ℕ → Read Y → Result (Y × Place) Refusal
outcome place octets (Ok x) = Ok (x.0, before place octets x.2)
outcome place octets (Err f) = Err (refusal_of_fault f)

-- reading where a place stands, if it stands in the octets
abbrev pub read_in : {Y : Type 0} → (Order → ℕ → List ℕ → Read Y) → Place → List ℕ → Result Position Refusal → Result (Y × Place) Refusal
read_in read place octets (Ok p) = outcome place octets (read p.order p.place p.rest)
read_in read place octets (Err refusal) = Err refusal

-- what reading gives at a place
abbrev pub read_at : {Y : Type 0} → (Order → ℕ → List ℕ → Read Y) → Place → List ℕ → Result (Y × Place) Refusal
read_at read place octets = read_in read place octets (position_at place octets)

-- the value was read, and the place goes after it; or both are as they were
abbrev pub Gets : {X Y : Type 0} → (X → Y) → Result (Y × Place) Refusal → Place → Place → X → X → ℤ → Type 0
Gets view (Ok x) place after value new answer = (answer ≡ pos 0) × (view new ≡ x.0) × (after ≡ x.1)
Gets view (Err refusal) place after value new answer = (answer ≡ error_number refusal) × (after ≡ place) × (new ≡ value)

-- a boolean is the octet 0 or 1
abbrev pub flag_value : ℕ → Value
flag_value n = if n == 0 then value.boolean false else (if n == 1 then value.boolean true else octet_value n)

-- octets over those of a room from an index on
abbrev pub overwritten : ℕ → List ℕ → List ℕ → List ℕ
overwritten at octets room = take at room ++ octets ++ drop (at + length octets) room

-- octets are written into a room at a place, which goes after them; or why not
abbrev pub written : Place → List ℕ → List ℕ → Result (Place × List ℕ) Refusal
written place octets room = if nat_lt (place.at + place.next) (2 ^ 32) && not (nat_lt (length room) place.next) then (if nat_lt (length room) (place.next + length octets) then Err Room else Ok (record place { next = place.next + length octets }, overwritten place.next octets room)) else Err Range

-- a value is written at a place, in the place's order
abbrev pub put_at : Value → Place → List ℕ → Result (Place × List ℕ) Refusal
put_at v place room = by_order (order_named place.order) (written place (octets_of Big v (place.at + place.next)) room) (written place (octets_of Little v (place.at + place.next)) room)

-- the place and the room are what was written; or both are as they were, and why is said
abbrev pub Writes : Result (Place × List ℕ) Refusal → Place → Place → List ℕ → List ℕ → Result ℕ Refusal → Type 0
Writes (Ok x) place after room new result = (result ≡ Ok 0) × (after ≡ x.0) × (new ≡ x.1)
Writes (Err refusal) place after room new result = (result ≡ Err refusal) × (after ≡ place) × (new ≡ room)

-- the place and the room are what was written, and 0 is answered; or both are as they were, and the number says why
abbrev pub Puts : Result (Place × List ℕ) Refusal → Place → Place → List ℕ → List ℕ → ℤ → Type 0
Puts (Ok x) place after room new answer = (answer ≡ pos 0) × (after ≡ x.0) × (new ≡ x.1)
Puts (Err refusal) place after room new answer = (answer ≡ error_number refusal) × (after ≡ place) × (new ≡ room)

-- zeros up to the next place divisible by a size, and octets
abbrev pub padded : Place → ℕ → List ℕ → List ℕ
padded place size octets = replicate (padding (place.at + place.next) size) 0 ++ octets

-- a length, octets of which it counts all, and at their end those of `nul`; in the place's order
abbrev pub put_counted : List ℕ → List ℕ → Place → List ℕ → Result (Place × List ℕ) Refusal
put_counted octets nul place room =
    let n = length octets + length nul in
    if nat_lt n (2 ^ 32) then by_order (order_named place.order) (written place (padded place 4 (digits_of Big 4 n ++ octets ++ nul)) room) (written place (padded place 4 (digits_of Little 4 n ++ octets ++ nul)) room) else by_order (order_named place.order) (Err Long) (Err Long)

-- a value of so many octets is written, which must be fewer than 2^32
abbrev pub put_long : ℕ → Value → Place → List ℕ → Result (Place × List ℕ) Refusal
put_long n v place room = if nat_lt n (2 ^ 32) then put_at v place room else by_order (order_named place.order) (Err Long) (Err Long)
