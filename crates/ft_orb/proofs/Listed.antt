-- Where the service contexts of a Reply end, and where its body stands behind them.
use Rattle.std.proofs.Common.{◌≡◌, ◌==◌, ◌∙◌, ◌||◌, ap, refl, sym, ℕ, ◌+◌, ◌%◌, ◌<◌, ◌≤◌, Bool, true, false, arith, List, [], ◌∷◌, ◌++◌, length, length-append, map, drop, get_or}
use Rattle.std.proofs.lemmas.List.{drop_all, drop_more}
use Rattle.std.specs.Borrow.{Bor}
use Rattle.cdr_core.specs.Numbers.{padding}
use Rattle.cdr_core.specs.Parts.{ulong_value}
use Rattle.cdr_core.specs.Value as value
use Rattle.cdr_core.specs.Value.{Values, count, values}
use Rattle.cdr_core.specs.Writing.{number_octets, octets_of, octets_of_all}
use Rattle.cdr_core.specs.declared.order.Order.{Order}
use Rattle.cdr_core.specs.declared.order.Order.TheVariants.{Big}
use Rattle.cdr_core.proofs.Lengths.{number_length}
use Rattle.giop_core.specs.Items.{item_at, list_value, tagged_value}
use Rattle.giop_core.specs.Laws.{rest_after}
use Rattle.giop_core.specs.Written.{octets_body, reply_fields}
use Rattle.giop_core.proofs.OctetsBody.{body_length}
use Rattle.giop_core.specs.declared.header.MessageKind.TheVariants.{Reply}
use Rattle.giop_core.specs.declared.header.Version.{Version}
use Rattle.giop_core.specs.declared.header.Version.TheVariants.{V10, V11, V12}
use Rattle.ft_log.specs.Performed.{Performed, raised, raw, returned, system}
use Rattle.ft_objects.specs.Replies.{body_of, order_of, status_of}
use Rattle.ft_orb.specs.Carrying.{is_placed}

-- how many octets contexts take from a place on: each its id, its length and its octets, from a place divisible by 4 on
abbrev pub taking : List (ℕ × List ℕ) → ℕ → ℕ
taking [] o = 0
taking (x ∷ xs) o = (padding o 4 + 8 + length x.1) + taking xs (o + (padding o 4 + 8 + length x.1))

one-takes : (order : Order) (x : ℕ × List ℕ) (o : ℕ) → length (octets_of order (tagged_value x) o) ≡ padding o 4 + 8 + length x.1
one-takes order x o =
    let front = octets_of order (ulong_value x.0) o in
    let at = o + length front in
    let size = number_octets order 4 at (length x.1) in
    let first : length front ≡ padding o 4 + 4 = number_length order 4 o x.0 in
    omega (arith, first, number_length order 4 at (length x.1), length-append front ((size ++ x.1) ++ []), length-append {A = ℕ} (size ++ x.1) [], length-append size x.1)

pub all_takes : (order : Order) (xs : List (ℕ × List ℕ)) (o : ℕ) → length (octets_of_all order (values (map tagged_value xs)) o) ≡ taking xs o
all_takes order [] o = refl
all_takes order (x ∷ xs) o =
    let front = octets_of order (tagged_value x) o in
    let rest = λ (n : ℕ). length (octets_of_all order (values (map tagged_value xs)) (o + n)) in
    let n = padding o 4 + 8 + length x.1 in
    length-append front (octets_of_all order (values (map tagged_value xs)) (o + length front))
    ∙ ap (λ (m : ℕ). m + rest m) (one-takes order x o)
    ∙ ap (λ (m : ℕ). n + m) (all_takes order xs (o + n))

pub list_takes : (order : Order) (xs : List (ℕ × List ℕ)) → length (octets_of order (list_value xs) 12) ≡ 4 + taking xs 16
list_takes order xs =
    let vs = values (map tagged_value xs) in
    let front = number_octets order 4 12 (count vs) in
    let four : length front ≡ 4 = omega (arith, number_length order 4 12 (count vs)) in
    length-append front (octets_of_all order vs (12 + length front))
    ∙ ap (λ (m : ℕ). m + length (octets_of_all order vs (12 + m))) four
    ∙ ap (λ (m : ℕ). 4 + m) (all_takes order xs 16)

-- one context further
pub takes_on : (all : List (ℕ × Bor (List ℕ))) (i : ℕ) (d : ℕ × Bor (List ℕ)) → i < length all → (e : ℕ)
    → e + taking (map item_at (drop i all)) e ≡ (e + (padding e 4 + 8 + length (get_or all i d).1.now)) + taking (map item_at (drop (i + 1) all)) (e + (padding e 4 + 8 + length (get_or all i d).1.now))
takes_on all i d lt e =
    let n = padding e 4 + 8 + length (get_or all i d).1.now in
    let next : e + taking (map item_at (drop i all)) e ≡ e + (n + taking (map item_at (drop (i + 1) all)) (e + n)) = ap (λ (xs : List (ℕ × Bor (List ℕ))). e + taking (map item_at xs) e) (drop_more all i d lt) in
    omega (arith, next)

-- .. and behind the last
pub takes_none : (all : List (ℕ × Bor (List ℕ))) (i e : ℕ) → length all ≤ i → taking (map item_at (drop i all)) e ≡ 0
takes_none all i e le = ap (λ (xs : List (ℕ × Bor (List ℕ))). taking (map item_at xs) e) (drop_all i all le)

-- The place of a body.

-- in 1.0 and 1.1 it stands behind the id and the status, which follow the contexts
place-behind : (order : Order) (id status : ℕ) (contexts : List (ℕ × List ℕ)) (end : ℕ) → end ≡ 12 + length (octets_of Big (list_value contexts) 12)
    → 12 + length (octets_of_all order (values (list_value contexts ∷ ulong_value id ∷ value.enumeration status ∷ [])) 12) ≡ end + padding end 4 + 8
place-behind order id status contexts end is =
    let list = octets_of order (list_value contexts) 12 in
    let same : end ≡ 12 + length list = is ∙ ap (λ (n : ℕ). 12 + n) (list_takes Big contexts ∙ sym (list_takes order contexts)) in
    let first = octets_of order (ulong_value id) (12 + length list) in
    let second = octets_of order (value.enumeration status) (12 + length list + length first) in
    omega (arith, same, number_length order 4 (12 + length list) id, number_length order 4 (12 + length list + length first) status, length-append list (first ++ (second ++ [])), length-append first (second ++ []), length-append {A = ℕ} second [])

abbrev pub placed_by : Version → Performed → (end : ℕ) → Bool
placed_by V12 p end = true
placed_by V10 (raw status order octets) end = length octets == 0 || (end + padding end 4) % 8 == 0
placed_by V11 (raw status order octets) end = length octets == 0 || (end + padding end 4) % 8 == 0
placed_by _ p end = true

or-true : (b : Bool) → (b || true) ≡ true
or-true true = refl
or-true false = refl

by-place : (octets : List ℕ) (place end : ℕ) → place ≡ end + padding end 4 + 8 → (length octets == 0 || place % 8 == 0) ≡ (length octets == 0 || (end + padding end 4) % 8 == 0)
by-place octets place end is = ap (λ (n : ℕ). length octets == 0 || n == 0) (let same : place % 8 ≡ (end + padding end 4) % 8 = omega (arith, is) in same)

-- there are as many octets as come
by-length : (order : Order) (octets : List ℕ) (at place : ℕ) → (length (octets_of_all order (octets_body octets) at) == 0 || place % 8 == 0) ≡ (length octets == 0 || place % 8 == 0)
by-length order octets at place = ap (λ (n : ℕ). n == 0 || place % 8 == 0) (body_length order octets at)

aligned : (place : ℕ) → (place + padding place 8) % 8 ≡ 0
aligned place = omega arith

pub placed_is : (version : Version) (id : ℕ) (p : Performed) (contexts : List (ℕ × List ℕ)) (end : ℕ) → end ≡ 12 + length (octets_of Big (list_value contexts) 12)
    → is_placed p (rest_after version Reply (order_of p) (reply_fields version id (status_of p) contexts) (body_of p)) ≡ placed_by version p end
placed_is V10 id (returned results) contexts end is = refl
placed_is V11 id (returned results) contexts end is = refl
placed_is V12 id (returned results) contexts end is = refl
placed_is V10 id (raised name members) contexts end is = refl
placed_is V11 id (raised name members) contexts end is = refl
placed_is V12 id (raised name members) contexts end is = refl
placed_is V10 id (system name minor completion) contexts end is = refl
placed_is V11 id (system name minor completion) contexts end is = refl
placed_is V12 id (system name minor completion) contexts end is = refl
placed_is V10 id (raw status order octets) contexts end is = by-length order octets _ _ ∙ by-place octets _ end (place-behind order id (status_of (raw status order octets)) contexts end is)
placed_is V11 id (raw status order octets) contexts end is = by-length order octets _ _ ∙ by-place octets _ end (place-behind order id (status_of (raw status order octets)) contexts end is)
placed_is V12 id (raw status order octets) contexts end is =
    let place = 12 + length (octets_of_all order (values (reply_fields V12 id (status_of (raw status order octets)) contexts)) 12) in
    by-length order octets (place + padding place 8) (place + padding place 8) ∙ ap (λ (n : ℕ). length octets == 0 || n == 0) (aligned place) ∙ or-true (length octets == 0)
