-- The length of what is written, where it ends, and one part after another.
use Rattle.std.proofs.Common.{◌≡◌, ℕ, ◌+◌, ◌-◌, ◌<◌, ◌≤◌, List, ◌++◌, length, drop, get_or, replicate, refl, sym, ap, ◌∙◌, arith, length-append}
use Rattle.std.proofs.lemmas.List.{length-replicate, drop_more}
use Rattle.byteorder.specs.Numbers.{length-bytes_high_first, length-bytes_low_first}
use Rattle.cdr_core.proofs.Appending.{appended}
use Rattle.cdr_core.specs.declared.order.Order.{Order}
use Rattle.cdr_core.specs.declared.order.Order.TheVariants.{Big, Little}
use Rattle.cdr_core.specs.declared.values.Val.{Val}
use Rattle.cdr_core.specs.Numbers.{padding, digits_of}
use Rattle.cdr_core.specs.Value as value
use Rattle.cdr_core.specs.View.{value_of, values_of}
use Rattle.cdr_core.specs.Writing.{number_octets, octets_of, octets_of_all, place_in, Appends, Writing}

pub digits_length : (order : Order) (n x : ℕ) → length (digits_of order n x) ≡ n
digits_length Big n x = length-bytes_high_first n x
digits_length Little n x = length-bytes_low_first 0 n x

pub number_length : (order : Order) (n o x : ℕ) → length (number_octets order n o x) ≡ padding o n + n
number_length order n o x = omega (arith, length-append (replicate (padding o n) 0) (digits_of order n x), length-replicate {A = ℕ} (padding o n) 0, digits_length order n x)

-- the next of some values
pub values_next : (all : List Val) (i : ℕ) (v : Val) → i < length all → v ≡ get_or all i v → values_of (drop i all) ≡ value.value (value_of v) (values_of (drop (i + 1) all))
values_next all i v lt is = ap values_of (drop_more all i v lt) ∙ ap (λ x. value.value (value_of x) (values_of (drop (i + 1) all))) (sym is)

-- the octets of what is left, once a value was appended
pub left_over : (w : Writing) (all : List Val) (i : ℕ) (v : Val) (old new : List ℕ) → i < length all → v ≡ get_or all i v → w.start ≤ length old → Appends w (value_of v) old new
    → new ++ octets_of_all w.order (values_of (drop (i + 1) all)) (place_in w new) ≡ old ++ octets_of_all w.order (values_of (drop i all)) (place_in w old)
left_over w all i v old new lt is le e =
    let vs = values_of (drop (i + 1) all) in
    appended w.at w.start old (octets_of w.order (value_of v) (place_in w old)) new (new ++ octets_of_all w.order vs (place_in w new)) (octets_of_all w.order vs) le e refl
    ∙ sym (ap (λ ws. old ++ octets_of_all w.order ws (place_in w old)) (values_next all i v lt is))

-- the room that a value takes, and what is left
pub room_left : (w : Writing) (all : List Val) (i : ℕ) (v : Val) (old new : List ℕ) → i < length all → v ≡ get_or all i v → w.start ≤ length old → Appends w (value_of v) old new
    → length new + length (octets_of_all w.order (values_of (drop (i + 1) all)) (place_in w new)) ≡ length old + length (octets_of_all w.order (values_of (drop i all)) (place_in w old))
room_left w all i v old new lt is le e =
    let h = ap length (left_over w all i v old new lt is le e) in
    omega (arith, h, length-append new (octets_of_all w.order (values_of (drop (i + 1) all)) (place_in w new)), length-append old (octets_of_all w.order (values_of (drop i all)) (place_in w old)))
