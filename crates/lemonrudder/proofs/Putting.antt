-- A number that is written in the order of its place, in the words of its value.
use Rattle.std.proofs.Common.{◌≡◌, ◌∙◌, ℕ, ◌+◌, ℤ, List, Result, Ok, Err, ap, subst}
use Rattle.cdr_core.specs.declared.order.Order.TheVariants.{Big, Little}
use Rattle.cdr_core.specs.Value.{Value}
use Rattle.cdr_core.specs.Writing.{octets_of}
use Rattle.lemonrudder.specs.declared.cdr.Place.{Place}
use Rattle.lemonrudder.specs.declared.refusal.Refusal.{Refusal}
use Rattle.lemonrudder.specs.Naming.{by_order, order_named}
use Rattle.lemonrudder.specs.Places.{Puts, Writes, padded, put_at, written}
use Rattle.lemonrudder.specs.Refusals.{number_in}

answers : (x : Result (Place × List ℕ) Refusal) (place after : Place) (room new : List ℕ) (r : Result ℕ Refusal) (answer : ℤ) → Writes x place after room new r → answer ≡ number_in r → Puts x place after room new answer
answers (Ok x) place after room new r answer w is = (is ∙ ap number_in w.0, w.1, w.2)
answers (Err e) place after room new r answer w is = (is ∙ ap number_in w.0, w.1, w.2)

pub puts_number : (v : Value) (size : ℕ) (big little : List ℕ) (place after : Place) (room new : List ℕ) (r : Result ℕ Refusal) (answer : ℤ) → padded place size big ≡ octets_of Big v (place.at + place.next) → padded place size little ≡ octets_of Little v (place.at + place.next)
    → Writes (by_order (order_named place.order) (written place (padded place size big) room) (written place (padded place size little) room)) place after room new r → answer ≡ number_in r → Puts (put_at v place room) place after room new answer
puts_number v size big little place after room new r answer is_big is_little w is =
    answers (put_at v place room) place after room new r answer
    (subst (λ xs. Writes (by_order (order_named place.order) (written place (octets_of Big v (place.at + place.next)) room) (written place xs room)) place after room new r) is_little
    (subst (λ xs. Writes (by_order (order_named place.order) (written place xs room) (written place (padded place size little) room)) place after room new r) is_big w)) is
