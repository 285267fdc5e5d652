-- What is kept of the requests that wait: under each place, their numbers. No public contract rests on how they are kept.
use Rattle.std.specs.Prelude.{◌≡◌, ℕ, ◌<◌, ◌&&◌, max, Bool, List, [], ◌∷◌, map, Option, Some, None, if◌then◌else◌}
use Rattle.std.specs.Global.{Vec}
use Rattle.std.specs.BTreeMap.{is_at as is_at_key}
use Rattle.std.specs.Map.{lookup, values_of}
use Rattle.std.specs.List.{AllByRecursion, flat_map}
use Rattle.std.specs.Option.{option_map_or}
use Rattle.std.specs.Ordering.{is_eq}
use Rattle.std.specs.declared.cmp.Ordering.{Ordering}
use Rattle.giop_tap.specs.declared.place.Place.{Place}
use Rattle.giop_tap.specs.contracts.place.PlaceOrd.TheImpl as order
use Rattle.giop_tap.specs.Pairing.{Asked, is_asked, is_wanted}

-- the order of places, in which equal ones are one
abbrev pub place_cmp : Place → Place → Ordering
place_cmp = order.ghosts.cmp

abbrev pub is_same_place : Place → Place → Bool
is_same_place p q = is_eq (place_cmp p q)

abbrev pub Waits : Type 0
Waits = List (Place × Vec ℕ)

-- the numbers that are kept under a place, the latest last
abbrev pub numbers_in : Waits → Place → List ℕ
numbers_in m p = option_map_or (λ v. v.items) (lookup (is_at_key (place_cmp p)) m) []

-- whether a request waits at a place
abbrev pub is_at : Place → Asked → Bool
is_at p a = is_asked p.connection p.sender p.id a && is_wanted p.wanted a.wanted

-- the numbers of those that do
abbrev pub numbers_at : Place → List Asked → List ℕ
numbers_at p [] = []
numbers_at p (a ∷ later) = if is_at p a then a.number ∷ numbers_at p later else numbers_at p later

-- the numbers of all requests
abbrev pub numbers : List Asked → List ℕ
numbers asked = map (λ a. a.number) asked

-- those that are kept, place by place
abbrev pub gathered : Waits → List ℕ
gathered m = flat_map (λ v. v.items) (values_of m)

-- what is kept is these requests
abbrev pub AreWaiting : Waits → List Asked → Type 0
AreWaiting m asked = (p : Place) → numbers_in m p ≡ numbers_at p asked

-- the last number, and the others
abbrev pub last_or_this : Option ℕ → ℕ → Option ℕ
last_or_this None n = Some n
last_or_this (Some m) n = Some m

abbrev pub last_of : List ℕ → Option ℕ
last_of [] = None
last_of (n ∷ ns) = last_or_this (last_of ns) n

abbrev pub with_first : ℕ → List ℕ → List ℕ → List ℕ
with_first n [] others = []
with_first n (m ∷ ns) others = n ∷ others

abbrev pub without_last : List ℕ → List ℕ
without_last [] = []
without_last (n ∷ ns) = with_first n ns (without_last ns)

-- the greater of two numbers
abbrev pub later_of : Option ℕ → Option ℕ → Option ℕ
later_of None other = other
later_of (Some n) None = Some n
later_of (Some n) (Some m) = Some (max n m)

-- each number is greater than those before it
abbrev pub AreRising : List Asked → Type 0
AreRising [] = Unit {0}
AreRising (a ∷ later) = AllByRecursion (λ b. a.number < b.number) later × AreRising later
