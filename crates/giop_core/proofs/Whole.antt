-- A message put together: its fields, its body, and the header over the zeros in its place.
use Rattle.std.proofs.Common.{◌≡◌, ◌≢◌, ℕ, zero, suc, ◌+◌, ◌-◌, ◌≤◌, ◌^◌, List, [], ◌∷◌, ◌++◌, length, take, drop, replicate, Result, Ok, Err, MatchResult, refl, sym, ap, subst, ◌∙◌, arith, append_assoc, length-append}
use Rattle.std.proofs.lemmas.List.{append-nil, drop-append-le, drop_at, length-drop, length-replicate, take-append-drop, take-append-le, take_at}
use Rattle.std.specs.Prelude.{OnErr, OnOk}
use Rattle.std.specs.declared.alloc.AllocError.{AllocError}
use Rattle.cdr_core.specs.declared.order.Order.{Order}
use Rattle.cdr_core.proofs.Appending.{keeps_all, keeps_behind, place_behind, puts_next}
use Rattle.cdr_core.specs.Private.{Keeps}
use Rattle.cdr_core.specs.Writing.{Appends, PutsAll, number_octets, octets_of, octets_of_all, place_in, AreWritable, IsWritable, Writing}
use Rattle.cdr_core.specs.Numbers.{padding}
use Rattle.cdr_core.specs.Value as value
use Rattle.cdr_core.specs.Value.{Value, Values, no_values, values}
use Rattle.giop_core.specs.declared.header.MessageKind.{MessageKind}
use Rattle.giop_core.specs.declared.header.MessageKind.TheVariants as kind
use Rattle.giop_core.specs.declared.header.Version.{Version}
use Rattle.giop_core.specs.declared.header.Version.TheVariants.{V10, V11, V12}
use Rattle.giop_core.specs.declared.error.WriteError.{WriteError}
use Rattle.giop_core.specs.declared.error.WriteError.TheVariants.{TooLong, Memory}
use Rattle.giop_core.specs.declared.request.ReplyWish.{ReplyWish}
use Rattle.giop_core.specs.Content.{nth, Addressed}
use Rattle.giop_core.specs.Items.{list_value}
use Rattle.giop_core.specs.Written.{aligned_octets, behind_gap, behind_header, body_octets, exception_body, locate_request_fields, reply_fields, request_fields, target_in, with_body}
use Rattle.giop_core.specs.Private.{AreLong, IsLong, Adds, Begins, Checks}
use Rattle.giop_core.proofs.Longs.{first_long, rest_long}

-- a gap that belongs to octets

gap_some : (n : ℕ) (xs : List ℕ) → length xs ≢ 0 → replicate n 0 ++ xs ≡ behind_gap n xs
gap_some n [] h = absurd (h refl)
gap_some n (x ∷ xs) h = refl

gap_none : (n : ℕ) (xs : List ℕ) → length xs ≡ 0 → behind_gap n xs ≡ []
gap_none n [] h = refl
gap_none n (x ∷ xs) h = absurd (omega (arith, h))

module _ (w : Writing) (body : Values) (old aligned new : List ℕ) (le : w.start ≤ length old)
    (a : aligned ≡ old ++ replicate (padding (place_in w old) 8) 0) (p : PutsAll w body aligned new) where
  abbrev gap : ℕ
  gap = padding (place_in w old) 8

  abbrev octets : List ℕ
  octets = octets_of_all w.order body (place_in w old + gap)

  behind : new ≡ (old ++ replicate gap 0) ++ octets
  behind =
      let place : place_in w aligned ≡ place_in w old + gap = ap (place_in w) a ∙ place_behind w.at w.start old (replicate gap 0) le ∙ ap (λ n. place_in w old + n) (length-replicate {A = ℕ} gap 0) in
      p ∙ ap (λ o. aligned ++ octets_of_all w.order body o) place ∙ ap (λ xs. xs ++ octets) a

  longer : length new ≡ length aligned + length octets
  longer = ap length (behind ∙ ap (λ xs. xs ++ octets) (sym a)) ∙ length-append aligned octets

  pub aligned_some : length new ≢ length aligned → new ≡ old ++ aligned_octets w.order body (place_in w old)
  aligned_some h =
      behind ∙ append_assoc old (replicate gap 0) octets ∙ ap (λ xs. old ++ xs) (gap_some gap octets (λ none. h (omega (arith, longer, none))))

  pub aligned_none : length new ≡ length aligned → take (length old) new ≡ old ++ aligned_octets w.order body (place_in w old)
  aligned_none h =
      let none = gap_none gap octets (omega (arith, longer, h)) in
      ap (take (length old)) (behind ∙ append_assoc old (replicate gap 0) octets) ∙ take_at old (replicate gap 0 ++ octets) (length old) refl ∙ sym (ap (λ xs. old ++ xs) none ∙ append-nil old)

-- the body of an exception has octets
exception_some : (order : Order) (id : List ℕ) (members : Values) (o : ℕ) → 1 ≤ length (octets_of_all order (exception_body id members) o)
exception_some order id members o =
    let text = octets_of order (value.string id) o in
    let counted = number_octets order 4 o (length id + 1) in
    omega (arith, length-append text (octets_of_all order members (o + length text)), length-append (counted ++ id) (0 ∷ []))

-- it is its id, and then its members
pub exception_put : (w : Writing) (id : List ℕ) (members : Values) (old mid new : List ℕ) → w.start ≤ length old → Appends w (value.string id) old mid
    → (r : Result (Unit {0}) AllocError) → OnOk r (PutsAll w members mid new) → OnErr r (new ≡ mid) → MatchResult r (λ _. PutsAll w (exception_body id members) old new) (λ _. Keeps old new)
exception_put w id members old mid new le first (Ok x) ok err = puts_next w (value.string id) members old mid new le first ok
exception_put w id members old mid new le first (Err x) ok err = keeps_behind (octets_of w.order (value.string id) (place_in w old)) first (keeps_all mid new err)

-- it is aligned with its octets behind the gap
exception_aligned : (w : Writing) (id : List ℕ) (members : Values) (old aligned new : List ℕ) → w.start ≤ length old
    → aligned ≡ old ++ replicate (padding (place_in w old) 8) 0 → PutsAll w (exception_body id members) aligned new
    → new ≡ old ++ aligned_octets w.order (exception_body id members) (place_in w old)
exception_aligned w id members old aligned new le a p =
    aligned_some w (exception_body id members) old aligned new le a p
    (λ same. absurd (omega (arith, same, ap length p, length-append aligned (octets_of_all w.order (exception_body id members) (place_in w aligned)), exception_some w.order id members (place_in w aligned))))

pub room_kept : {start : ℕ} (old new more : List ℕ) → new ≡ old ++ more → start ≤ length old → start ≤ length new
room_kept {start} old new more e le = omega (arith, le, ap length e, length-append old more)

pub aligned_put : (w : Writing) (id : List ℕ) (members : Values) (old aligned new : List ℕ) → w.start ≤ length old
    → aligned ≡ old ++ replicate (padding (place_in w old) 8) 0 → (r : Result (Unit {0}) AllocError)
    → MatchResult r (λ _. PutsAll w (exception_body id members) aligned new) (λ _. Keeps aligned new)
    → MatchResult r (λ _. new ≡ old ++ aligned_octets w.order (exception_body id members) (place_in w old)) (λ _. Keeps old new)
aligned_put w id members old aligned new le a (Ok x) p = exception_aligned w id members old aligned new le a p
aligned_put w id members old aligned new le a (Err x) k = keeps_behind (replicate (padding (place_in w old) 8) 0) a k

-- what stands before a place stands in front
pub front_kept : (n : ℕ) (xs : List ℕ) → Keeps (take n xs) xs
front_kept n xs = record { more = drop n xs; parts = sym (take-append-drop n xs) }

-- the body after the fields

module _ (version : Version) (kind : MessageKind) (order : Order) (start : ℕ) (body : Values) (w : Writing) (old bodied : List ℕ)
    (begun : start + 12 ≤ length old) (is : w ≡ record { order = order; at = 12; start = start + 12 })
    (put : bodied ≡ old ++ body_octets version kind w.order body (place_in w old)) where
  octets_behind : drop (start + 12) bodied ≡ with_body version kind order body (drop (start + 12) old)
  octets_behind =
      let place : 12 + (length old - (start + 12)) ≡ 12 + length (drop (start + 12) old) = omega (arith, length-drop (start + 12) old) in
      let told : bodied ≡ old ++ body_octets version kind order body (12 + (length old - (start + 12))) = rw is at put in
      ap (drop (start + 12)) told ∙ drop-append-le (start + 12) old (body_octets version kind order body (12 + (length old - (start + 12)))) begun
      ∙ ap (λ o. drop (start + 12) old ++ body_octets version kind order body o) place

  octets_before : take start bodied ≡ take start old
  octets_before = ap (take start) put ∙ take-append-le start old (body_octets version kind w.order body (place_in w old)) (omega (arith, begun))

  pub body_behind : (r : Result (Unit {0}) WriteError) (new : List ℕ) → Adds version kind order (drop (start + 12) bodied) r (take start bodied) new
      → Adds version kind order (with_body version kind order body (drop (start + 12) old)) r (take start old) new
  body_behind r new h = subst (λ xs. Adds version kind order xs r (take start old) new) octets_behind (subst (λ xs. Adds version kind order (drop (start + 12) bodied) r xs new) octets_before h)

-- a partial message: zeros in place of its header, and a writer of what follows

module _ (w : Writing) (order : Order) (old begun : List ℕ) (begins : begun ≡ old ++ replicate 12 0) (is : w ≡ record { order = order; at = 12; start = length begun }) where
  pub starts_begun : w.start ≤ length begun
  starts_begun = omega (arith, ap (λ x. x.start) is)

  module _ (start : ℕ) (same : start ≡ length old) where
    behind_room : length begun ≡ start + 12
    behind_room = omega (arith, ap length begins, length-append old (replicate {A = ℕ} 12 0), length-replicate {A = ℕ} 12 0, same)

    pub writes_begun : w ≡ record { order = order; at = 12; start = start + 12 }
    writes_begun = is ∙ ap (λ n. record { order = order; at = 12; start = n }) behind_room

    pub room_begun : {fielded : List ℕ} (more : List ℕ) → fielded ≡ begun ++ more → start + 12 ≤ length fielded
    room_begun {fielded} more e = omega (arith, ap length e, length-append begun more, behind_room)

-- the fields after the place of the header

module _ (version : Version) (kind : MessageKind) (order : Order) (fields : List Value) (body : Values) (old fielded : List ℕ)
    (whole : fielded ≡ old ++ (replicate 12 0 ++ octets_of_all order (values fields) 12)) where
  front : take (length old) fielded ≡ old
  front = ap (take (length old)) whole ∙ take_at old (replicate 12 0 ++ octets_of_all order (values fields) 12) (length old) refl

  fields_behind : drop (length old + 12) fielded ≡ octets_of_all order (values fields) 12
  fields_behind =
      ap (drop (length old + 12)) (whole ∙ sym (append_assoc old (replicate 12 0) (octets_of_all order (values fields) 12)))
      ∙ drop_at (old ++ replicate 12 0) (octets_of_all order (values fields) 12) (length old + 12) (omega (arith, length-append old (replicate {A = ℕ} 12 0)))

  pub finished_whole : (start : ℕ) → start ≡ length old → (r : Result (Unit {0}) WriteError) (new : List ℕ)
      → Adds version kind order (with_body version kind order body (drop (start + 12) fielded)) r (take start fielded) new
      → Adds version kind order (behind_header version kind order fields body) r old new
  unfolding behind_header
  finished_whole start same r new h =
      let told = subst (λ n. Adds version kind order (with_body version kind order body (drop (n + 12) fielded)) r (take n fielded) new) same h in
      subst (λ xs. Adds version kind order (with_body version kind order body xs) r old new) fields_behind
      (subst (λ xs. Adds version kind order (with_body version kind order body (drop (length old + 12) fielded)) r xs new) front told)

module _ (order : Order) (fields : List Value) (w : Writing) (old begun fielded : List ℕ)
    (begins : begun ≡ old ++ replicate 12 0) (is : w ≡ record { order = order; at = 12; start = length begun })
    (puts : PutsAll w (values fields) begun fielded) where
  pub whole_begun : fielded ≡ old ++ (replicate 12 0 ++ octets_of_all order (values fields) 12)
  whole_begun =
      let here : 12 + (length begun - length begun) ≡ 12 = omega arith in
      let told : fielded ≡ begun ++ octets_of_all order (values fields) (12 + (length begun - length begun)) = rw is at puts in
      told ∙ ap (λ o. begun ++ octets_of_all order (values fields) o) here ∙ ap (λ xs. xs ++ octets_of_all order (values fields) 12) begins ∙ append_assoc old (replicate 12 0) (octets_of_all order (values fields) 12)

module _ (version : Version) (kind : MessageKind) (order : Order) (fields : List Value) (body : Values) (w : Writing) (old begun fielded : List ℕ)
    (begins : begun ≡ old ++ replicate 12 0) (is : w ≡ record { order = order; at = 12; start = length begun })
    (puts : PutsAll w (values fields) begun fielded) where
  pub finished : (start : ℕ) → start ≡ length old → (r : Result (Unit {0}) WriteError) (new : List ℕ)
      → Adds version kind order (with_body version kind order body (drop (start + 12) fielded)) r (take start fielded) new
      → Adds version kind order (behind_header version kind order fields body) r old new
  finished = finished_whole version kind order fields body old fielded (whole_begun order fields w old begun fielded begins is puts)

-- a partial message

module _ (order : Order) (fields : List Value) (w : Writing) (old fielded : List ℕ) (b : Begins order fields (Ok w) old fielded) (start : ℕ) (same : start ≡ length old) where
  pub room_after : start + 12 ≤ length fielded
  room_after =
      let all = octets_of_all order (values fields) 12 in
      omega (arith, same, ap length b.0, length-append old (replicate {A = ℕ} 12 0 ++ all), length-append (replicate {A = ℕ} 12 0) all, length-replicate {A = ℕ} 12 0)

  pub writes_after : w ≡ record { order = order; at = 12; start = start + 12 }
  writes_after = b.1 ∙ ap (λ n. record { order = order; at = 12; start = n + 12 }) (sym same)

  pub starts_after : w.start ≤ length fielded
  starts_after = omega (arith, room_after, ap (λ (x : Writing). x.start) writes_after)

  pub keeps_after : {new : List ℕ} → Keeps fielded new → Keeps old new
  keeps_after {new} k = keeps_behind (replicate 12 0 ++ octets_of_all order (values fields) 12) b.0 k

-- a field that is too long

nth_long : (n : ℕ) (fields : List Value) → IsLong (nth n fields) → AreLong (values fields)
nth_long n [] long order o = absurd (omega (arith, long order o))
nth_long zero (v ∷ vs) long order o = first_long v (values vs) long order o
nth_long (suc n) (v ∷ vs) long order o = rest_long v (values vs) (nth_long n vs long) order o

fields_long : (version : Version) (kind : MessageKind) (order : Order) (fields : List Value) (body : Values) → AreLong (values fields) → 2 ^ 32 ≤ length (behind_header version kind order fields body)
unfolding behind_header
fields_long version kind order fields body long =
    let front = octets_of_all order (values fields) 12 in
    omega (arith, long order 12, length-append front (body_octets version kind order body (12 + length front)))

pub judged_adds : (version : Version) (kind : MessageKind) (order : Order) (fields : List Value) (body : Values) (old : List ℕ) (v : Value) (e : WriteError) → (IsLong v → AreLong (values fields))
    → Checks {A = Unit {0}} v (Err e) → Adds {A = Unit {0}} version kind order (behind_header version kind order fields body) (Err e) old old
judged_adds version kind order fields body old v TooLong long h = (fields_long version kind order fields body (long h), keeps_all old old refl)
judged_adds version kind order fields body old v Memory long h = absurd h

-- a body of a Reply that is too long

gap_long : (n : ℕ) (xs : List ℕ) → length xs ≤ length (behind_gap n xs)
gap_long n [] = omega arith
gap_long n (x ∷ xs) = omega (arith, length-append (replicate {A = ℕ} n 0) (x ∷ xs))

reply_body_long : (version : Version) (order : Order) (body : Values) (place : ℕ) → AreLong body → 2 ^ 32 ≤ length (body_octets version kind.Reply order body place)
reply_body_long V10 order body place long = long order place
reply_body_long V11 order body place long = long order place
reply_body_long V12 order body place long =
    let gap = padding place 8 in
    omega (arith, long order (place + gap), gap_long gap (octets_of_all order body (place + gap)))

body_long : (version : Version) (order : Order) (fields : List Value) (body : Values) → AreLong body → 2 ^ 32 ≤ length (behind_header version kind.Reply order fields body)
unfolding behind_header
body_long version order fields body long =
    let front = octets_of_all order (values fields) 12 in
    omega (arith, reply_body_long version order body (12 + length front) long, length-append front (body_octets version kind.Reply order body (12 + length front)))

-- the id of an exception is too long
pub exception_judged : (version : Version) (order : Order) (fields : List Value) (id : List ℕ) (members : Values) (old : List ℕ) (e : WriteError)
    → Checks {A = Unit {0}} (value.string id) (Err e) → Adds {A = Unit {0}} version kind.Reply order (behind_header version kind.Reply order fields (exception_body id members)) (Err e) old old
exception_judged version order fields id members old TooLong h = (body_long version order fields (exception_body id members) (first_long (value.string id) members h), keeps_all old old refl)
exception_judged version order fields id members old Memory h = absurd h

pub judged_begins : (order : Order) (fields : List Value) (old : List ℕ) (v : Value) (e : WriteError) → (IsLong v → AreLong (values fields))
    → Checks {A = Unit {0}} v (Err e) → Begins order fields (Err e) old old
judged_begins order fields old v TooLong long h = (long h, keeps_all old old refl)
judged_begins order fields old v Memory long h = absurd h

-- what does not go on with a partial message is not appended
pub unbegun : (version : Version) (kind : MessageKind) (order : Order) (fields : List Value) (body : Values) (old new : List ℕ) (e : WriteError)
    → Begins order fields (Err e) old new → Adds {A = Unit {0}} version kind order (behind_header version kind order fields body) (Err e) old new
unbegun version kind order fields body old new TooLong h = (fields_long version kind order fields body h.0, h.1)
unbegun version kind order fields body old new Memory h = h

-- the fields of a request

module _ (id : ℕ) (wish : ReplyWish) (to : Addressed) (operation : List ℕ) (contexts : List (ℕ × List ℕ)) where
  pub request_writable : (version : Version) → IsWritable (target_in version to) → IsWritable (value.string operation) → IsWritable (list_value contexts) → AreWritable (values (request_fields version id wish to operation contexts))
  request_writable V10 t o c = (c, (tt, (tt, (t, (o, (omega arith, tt))))))
  request_writable V11 t o c = (c, (tt, (tt, ((omega arith, (tt, (tt, (tt, tt)))), (t, (o, (omega arith, tt)))))))
  request_writable V12 t o c = (tt, (tt, ((omega arith, (tt, (tt, (tt, tt)))), (t, (o, (c, tt))))))

  pub request_target_long : (version : Version) → IsLong (target_in version to) → AreLong (values (request_fields version id wish to operation contexts))
  request_target_long V10 long = nth_long 3 (request_fields V10 id wish to operation contexts) long
  request_target_long V11 long = nth_long 4 (request_fields V11 id wish to operation contexts) long
  request_target_long V12 long = nth_long 3 (request_fields V12 id wish to operation contexts) long

  pub request_operation_long : (version : Version) → IsLong (value.string operation) → AreLong (values (request_fields version id wish to operation contexts))
  request_operation_long V10 long = nth_long 4 (request_fields V10 id wish to operation contexts) long
  request_operation_long V11 long = nth_long 5 (request_fields V11 id wish to operation contexts) long
  request_operation_long V12 long = nth_long 4 (request_fields V12 id wish to operation contexts) long

  pub request_contexts_long : (version : Version) → IsLong (list_value contexts) → AreLong (values (request_fields version id wish to operation contexts))
  request_contexts_long V10 long = nth_long 0 (request_fields V10 id wish to operation contexts) long
  request_contexts_long V11 long = nth_long 0 (request_fields V11 id wish to operation contexts) long
  request_contexts_long V12 long = nth_long 5 (request_fields V12 id wish to operation contexts) long

-- the fields of a reply

pub reply_writable : (version : Version) (id status : ℕ) (contexts : List (ℕ × List ℕ)) → IsWritable (list_value contexts) → AreWritable (values (reply_fields version id status contexts))
reply_writable V10 id status contexts c = (c, (tt, (tt, tt)))
reply_writable V11 id status contexts c = (c, (tt, (tt, tt)))
reply_writable V12 id status contexts c = (tt, (tt, (c, tt)))

pub reply_contexts_long : (version : Version) (id status : ℕ) (contexts : List (ℕ × List ℕ)) → IsLong (list_value contexts) → AreLong (values (reply_fields version id status contexts))
reply_contexts_long V10 id status contexts long = nth_long 0 (reply_fields V10 id status contexts) long
reply_contexts_long V11 id status contexts long = nth_long 0 (reply_fields V11 id status contexts) long
reply_contexts_long V12 id status contexts long = nth_long 2 (reply_fields V12 id status contexts) long

pub locate_target_long : (version : Version) (id : ℕ) (to : Addressed) → IsLong (target_in version to) → AreLong (values (locate_request_fields version id to))
locate_target_long version id to long = nth_long 1 (locate_request_fields version id to) long
