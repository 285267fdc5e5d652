-- Places that are equal are one, and a request waits at one place alone.
use Rattle.std.proofs.Common.{◌≡◌, ℕ, Bool, true, false, ◌&&◌, ◌==◌, refl, sym, ap, ◌∙◌, true≢false, arith}
use Rattle.std.proofs.lemmas.Bool.{and_parts, eq-eqb}
use Rattle.std.proofs.lemmas.Bool.Decides.{nat_tests}
use Rattle.std.specs.Cmp.{Equal-is}
use Rattle.std.proofs.lemmas.Cmp.{nat_cmp_total, tied_itself}
use Rattle.std.specs.Ordering.{nat_cmp, ordering_then, is_eq}
use Rattle.std.specs.declared.cmp.Ordering.{Ordering}
use Rattle.std.specs.declared.cmp.Ordering.TheVariants.{Less, Equal, Greater}
use Rattle.std.proofs.lemmas.Map.Lookups.{exact_unsigned}
use Rattle.giop_tap.specs.declared.sender.Sender.{Sender}
use Rattle.giop_tap.specs.declared.sender.Sender.TheVariants.{Opener, Acceptor}
use Rattle.giop_tap.specs.declared.place.Wanted.{Wanted}
use Rattle.giop_tap.specs.declared.place.Wanted.TheVariants.{Reply, Location}
use Rattle.giop_tap.specs.declared.place.Place.{Place}
use Rattle.giop_tap.specs.contracts.sender.SenderOrd.TheImpl as sender_order
use Rattle.giop_tap.specs.contracts.place.WantedOrd.TheImpl as wanted_order
use Rattle.giop_tap.specs.Pairing.{Asked, is_same, is_wanted}
use Rattle.giop_tap.specs.Waiting.{is_at, is_same_place}

then-equal : (a b : Ordering) → is_eq (ordering_then a b) ≡ true → (is_eq a ≡ true) × (is_eq b ≡ true)
then-equal Less b h = absurd (true≢false (sym h))
then-equal Equal b h = (refl, h)
then-equal Greater b h = absurd (true≢false (sym h))

equal-then : (a b : Ordering) → is_eq a ≡ true → is_eq b ≡ true → is_eq (ordering_then a b) ≡ true
equal-then Less b h k = absurd (true≢false (sym h))
equal-then Equal b h k = k
equal-then Greater b h k = absurd (true≢false (sym h))

number-is : (m n : ℕ) → is_eq (nat_cmp m n) ≡ true → m ≡ n
number-is m n h = exact_unsigned m n ((Equal-is (nat_cmp m n)).0 h)

number-itself : (n : ℕ) → is_eq (nat_cmp n n) ≡ true
number-itself n = (Equal-is (nat_cmp n n)).1 (tied_itself nat_cmp_total n)

sender-is : (s t : Sender) → is_eq (sender_order.ghosts.cmp s t) ≡ true → s ≡ t
sender-is Opener Opener h = refl
sender-is Opener Acceptor h = absurd (true≢false (sym h))
sender-is Acceptor Opener h = absurd (true≢false (sym h))
sender-is Acceptor Acceptor h = refl

sender-itself : (s : Sender) → is_eq (sender_order.ghosts.cmp s s) ≡ true
sender-itself Opener = refl
sender-itself Acceptor = refl

wanted-is : (s t : Wanted) → is_eq (wanted_order.ghosts.cmp s t) ≡ true → s ≡ t
wanted-is Reply Reply h = refl
wanted-is Reply Location h = absurd (true≢false (sym h))
wanted-is Location Reply h = absurd (true≢false (sym h))
wanted-is Location Location h = refl

wanted-itself : (s : Wanted) → is_eq (wanted_order.ghosts.cmp s s) ≡ true
wanted-itself Reply = refl
wanted-itself Location = refl

-- equal places are one
pub place-is : (p q : Place) → is_same_place p q ≡ true → p ≡ q
place-is p q h =
    let one = then-equal (nat_cmp p.connection q.connection) (ordering_then (sender_order.ghosts.cmp p.sender q.sender) (ordering_then (wanted_order.ghosts.cmp p.wanted q.wanted) (nat_cmp p.id q.id))) h in
    let two = then-equal (sender_order.ghosts.cmp p.sender q.sender) (ordering_then (wanted_order.ghosts.cmp p.wanted q.wanted) (nat_cmp p.id q.id)) one.1 in
    let three = then-equal (wanted_order.ghosts.cmp p.wanted q.wanted) (nat_cmp p.id q.id) two.1 in
    let c = number-is p.connection q.connection one.0 in
    let s = sender-is p.sender q.sender two.0 in
    let w = wanted-is p.wanted q.wanted three.0 in
    let d = number-is p.id q.id three.1 in
    λ i. record { connection = c i; sender = s i; wanted = w i; id = d i }

pub place-itself : (p : Place) → is_same_place p p ≡ true
place-itself p =
    equal-then (nat_cmp p.connection p.connection) (ordering_then (sender_order.ghosts.cmp p.sender p.sender) (ordering_then (wanted_order.ghosts.cmp p.wanted p.wanted) (nat_cmp p.id p.id))) (number-itself p.connection)
    (equal-then (sender_order.ghosts.cmp p.sender p.sender) (ordering_then (wanted_order.ghosts.cmp p.wanted p.wanted) (nat_cmp p.id p.id)) (sender-itself p.sender)
    (equal-then (wanted_order.ghosts.cmp p.wanted p.wanted) (nat_cmp p.id p.id) (wanted-itself p.wanted) (number-itself p.id)))

same-is : (s t : Sender) → is_same s t ≡ true → s ≡ t
same-is Opener Opener h = refl
same-is Opener Acceptor h = absurd (true≢false (sym h))
same-is Acceptor Opener h = absurd (true≢false (sym h))
same-is Acceptor Acceptor h = refl

kind-is : (s t : Wanted) → is_wanted s t ≡ true → s ≡ t
kind-is Reply Reply h = refl
kind-is Reply Location h = absurd (true≢false (sym h))
kind-is Location Reply h = absurd (true≢false (sym h))
kind-is Location Location h = refl

-- where a request waits
abbrev pub place_of : Asked → Place
place_of a = record { connection = a.connection; sender = a.sender; wanted = a.wanted; id = a.id }

waits-there : (p : Place) (a : Asked) → is_at p a ≡ true → p ≡ place_of a
waits-there p a h =
    let one = and_parts ((a.connection == p.connection && is_same a.sender p.sender) && a.id == p.id) (is_wanted p.wanted a.wanted) h in
    let two = and_parts (a.connection == p.connection && is_same a.sender p.sender) (a.id == p.id) one.0 in
    let three = and_parts (a.connection == p.connection) (is_same a.sender p.sender) two.0 in
    let c : p.connection ≡ a.connection = grind (arith, nat_tests) in
    let s = sym (same-is a.sender p.sender three.1) in
    let w = kind-is p.wanted a.wanted one.1 in
    let d : p.id ≡ a.id = grind (arith, nat_tests) in
    λ i. record { connection = c i; sender = s i; wanted = w i; id = d i }

-- it waits at no other
pub apart : (p q : Place) (a : Asked) → is_same_place p q ≡ false → is_at p a ≡ true → is_at q a ≡ false
apart p q a differ here = by (is_at q a) refl
  where
    by : (b : Bool) → is_at q a ≡ b → b ≡ false
    by true there = absurd (true≢false (sym (place-itself p) ∙ ap (λ (r : Place). is_same_place p r) (waits-there p a here ∙ sym (waits-there q a there)) ∙ differ))
    by false there = refl

-- a request waits where it was asked

same-itself : (s : Sender) → is_same s s ≡ true
same-itself Opener = refl
same-itself Acceptor = refl

kind-itself : (w : Wanted) → is_wanted w w ≡ true
kind-itself Reply = refl
kind-itself Location = refl

-- a request that waits at a place
abbrev pub asked_at : ℕ → Place → Asked
asked_at number p = record { number = number; connection = p.connection; sender = p.sender; wanted = p.wanted; id = p.id }

pub waits-here : (number : ℕ) (p : Place) → is_at p (asked_at number p) ≡ true
waits-here number p = rw (eq-eqb p.connection p.connection refl, same-itself p.sender, eq-eqb p.id p.id refl) (kind-itself p.wanted)
