-- The end of the fields, and the body and the header behind and before them.
use Rattle.std.proofs.Common.{◌≡◌, ◌==◌, inl, inr, ℕ, ◌+◌, ◌-◌, ◌<◌, ◌≤◌, true, false, List, [], ◌∷◌, ◌++◌, length, take, drop, replicate, Result, Ok, Err, refl, sym, ap, ◌∙◌, arith, append_assoc, length-append}
use Rattle.std.proofs.lemmas.List.{append-nil, drop-append-le, length-drop, length-replicate, take-append-drop, take-append-le, take_at}
use Rattle.std.specs.Prelude.{if◌then◌else◌, OnErr, OnOk}
use Rattle.std.specs.Result.{is_ok}
use Rattle.std.specs.declared.alloc.AllocError.{AllocError}
use Rattle.cdr_core.specs.declared.order.Order.{Order}
use Rattle.cdr_core.specs.Numbers.{digits_of, padding, AreOctets}
use Rattle.cdr_core.specs.Private.{Keeps}
use Rattle.cdr_core.specs.Value as value
use Rattle.cdr_core.specs.Value.{Value, Values, no_values, values}
use Rattle.cdr_core.specs.Writing.{octets_of_all}
use Rattle.cdr_core.proofs.Appending.{keeps_all, octets-last}
use Rattle.cdr_core.proofs.Lengths.{digits_length}
use Rattle.cdr_core.proofs.Turns.{with_last}
use Rattle.giop_core.specs.declared.error.WriteError.{WriteError}
use Rattle.giop_core.specs.declared.error.WriteError.TheVariants.{TooLong, Memory}
use Rattle.giop_core.specs.declared.header.MessageKind.{MessageKind}
use Rattle.giop_core.specs.declared.header.Version.{Version}
use Rattle.giop_core.specs.declared.header.Version.TheVariants.{V10, V11, V12}
use Rattle.giop_core.specs.Headers.{header_octets}
use Rattle.giop_core.specs.Written.{behind_gap, behind_header, body_octets, header_for, message_octets, octets_body, Wrote}
use Rattle.giop_core.proofs.OctetsBody.{body_read}
use Rattle.giop_frames.proofs.Deciding.{test_eq}
use Rattle.giop_proxy.specs.declared.placed.PlacingError.TheVariants as refused
use Rattle.giop_proxy.specs.Placing.{begins_at}
use Rattle.giop_proxy.specs.PlacingPrivate.{begun_at, gap_at, with_octets, Begins, HasBody, IsEnded}

-- a message without a body is its header and its fields

header_length : (version : Version) (kind : MessageKind) (order : Order) (size : ℕ) → length (header_octets (header_for version kind order size)) ≡ 12
header_length version kind order size = omega (arith, digits_length order 4 size)

bare : (version : Version) (kind : MessageKind) (order : Order) (fields : List Value) → HasBody kind → behind_header version kind order fields no_values ≡ octets_of_all order (values fields) 12
unfolding behind_header
bare V10 kind order fields b = append-nil (octets_of_all order (values fields) 12)
bare V11 kind order fields b = append-nil (octets_of_all order (values fields) 12)
bare V12 kind order fields (inl is) = rw is (append-nil (octets_of_all order (values fields) 12))
bare V12 kind order fields (inr is) = rw is (append-nil (octets_of_all order (values fields) 12))

pub begins-bare : (version : Version) (kind : MessageKind) (order : Order) (fields : List Value) (r : Result (Unit {0}) WriteError) (old new : List ℕ) → HasBody kind
    → Wrote version kind order (behind_header version kind order fields no_values) r old new → Begins order fields r old new
begins-bare version kind order fields (Ok x) old new b h =
    let after = behind_header version kind order fields no_values in
    let same = bare version kind order fields b in
    (header_octets (header_for version kind order (length after)), header_length version kind order (length after), h.1 ∙ ap (λ (xs : List ℕ). old ++ (header_octets (header_for version kind order (length after)) ++ xs)) same)
begins-bare version kind order fields (Err TooLong) old new b h = (omega (arith, h.0, ap length (bare version kind order fields b)), keeps_all old new h.1)
begins-bare version kind order fields (Err Memory) old new b h = keeps_all old new h

-- the principal, which ends the fields

module _ (order : Order) (front : Values) (n : ℕ) (old begun new head : List ℕ) (is : begun ≡ old ++ (head ++ octets_of_all order (with_last front (value.octets [])) 12))
    (put : new ≡ take (length begun - 4) begun ++ (digits_of order 4 n ++ replicate n 0)) where
  abbrev before : List ℕ
  before = octets_of_all order front 12

  abbrev gap : List ℕ
  gap = replicate (padding (12 + length before) 4) 0

  split : (xs : List ℕ) → octets_of_all order (with_last front (value.octets xs)) 12 ≡ (before ++ gap) ++ (digits_of order 4 (length xs) ++ xs)
  split xs =
      octets-last order front (value.octets xs) 12
      ∙ ap (λ (ys : List ℕ). before ++ ys) (append_assoc gap (digits_of order 4 (length xs)) xs)
      ∙ sym (append_assoc before gap (digits_of order 4 (length xs) ++ xs))

  whole : (xs : List ℕ) → old ++ (head ++ octets_of_all order (with_last front (value.octets xs)) 12) ≡ (old ++ (head ++ (before ++ gap))) ++ (digits_of order 4 (length xs) ++ xs)
  whole xs =
      ap (λ (ys : List ℕ). old ++ (head ++ ys)) (split xs)
      ∙ ap (λ (ys : List ℕ). old ++ ys) (sym (append_assoc head (before ++ gap) (digits_of order 4 (length xs) ++ xs)))
      ∙ sym (append_assoc old (head ++ (before ++ gap)) (digits_of order 4 (length xs) ++ xs))

  pub principal-put : new ≡ old ++ (head ++ octets_of_all order (with_last front (value.octets (replicate n 0))) 12)
  principal-put =
      let base = old ++ (head ++ (before ++ gap)) in
      let zero_digits = digits_of order 4 0 in
      let ends : begun ≡ base ++ (zero_digits ++ []) = is ∙ whole [] in
      let size : length base ≡ length begun - 4 = omega (arith, ap length ends, length-append base (zero_digits ++ []), length-append zero_digits [], digits_length order 4 0) in
      let kept : take (length begun - 4) begun ≡ base = ap (take (length begun - 4)) ends ∙ take_at base (zero_digits ++ []) (length begun - 4) size in
      put ∙ ap (λ (xs : List ℕ). xs ++ (digits_of order 4 n ++ replicate n 0)) kept
      ∙ ap (λ (m : ℕ). base ++ (digits_of order 4 m ++ replicate n 0)) (sym (length-replicate {A = ℕ} n 0))
      ∙ sym (whole (replicate n 0))

-- a body behind fields

-- its padding and its octets
abbrev pub placed_octets : Version → ℕ → List ℕ → List ℕ
placed_octets V12 end body = behind_gap (padding end 8) body
placed_octets _ end body = body

pub placed : (version : Version) (kind : MessageKind) (order : Order) (end : ℕ) (body : List ℕ) → HasBody kind → AreOctets body → body_octets version kind order (octets_body body) end ≡ placed_octets version end body
placed V10 kind order end body b are = body_read order body end are
placed V11 kind order end body b are = body_read order body end are
placed V12 kind order end body (inl is) are = rw is (ap (behind_gap (padding end 8)) (body_read order body (end + padding end 8) are))
placed V12 kind order end body (inr is) are = rw is (ap (behind_gap (padding end 8)) (body_read order body (end + padding end 8) are))

pub placed-none : (version : Version) (end : ℕ) → placed_octets version end [] ≡ []
placed-none V10 end = refl
placed-none V11 end = refl
placed-none V12 end = refl

pub placed-length : (version : Version) (end : ℕ) (body : List ℕ) → end + length (placed_octets version end body) ≡ begun_at version end body + length body
placed-length V10 end [] = refl
placed-length V11 end [] = refl
placed-length V12 end [] = refl
placed-length V10 end (x ∷ xs) = refl
placed-length V11 end (x ∷ xs) = refl
placed-length V12 end (x ∷ xs) =
    let gap : List ℕ = replicate (padding end 8) 0 in
    omega (arith, length-append gap (x ∷ xs), length-replicate {A = ℕ} (padding end 8) 0)

pub message-length : (version : Version) (kind : MessageKind) (order : Order) (after : List ℕ) → length (message_octets version kind order after) ≡ 12 + length after
message-length version kind order after =
    let head = header_octets (header_for version kind order (length after)) in
    omega (arith, length-append head after, header_length version kind order (length after))

pub ended-length : (version : Version) (kind : MessageKind) (order : Order) (start : ℕ) (body old : List ℕ) → HasBody kind → AreOctets body → start + 12 ≤ length old
    → length (message_octets version kind order (with_octets version kind order body (drop (start + 12) old))) ≡ begun_at version (length old - start) body + length body
ended-length version kind order start body old b are le =
    let front = drop (start + 12) old in
    let end : 12 + length front ≡ length old - start = omega (arith, length-drop (start + 12) old, le) in
    let behind = body_octets version kind order (octets_body body) (12 + length front) in
    let same : length behind ≡ length (placed_octets version (length old - start) body) = ap length (placed version kind order (12 + length front) body b are) ∙ ap (λ (p : ℕ). length (placed_octets version p body)) end in
    omega (arith, message-length version kind order (front ++ behind), length-append front behind, same, end, placed-length version (length old - start) body)

-- the message over what stands from its start on
pub ended-behind : (version : Version) (kind : MessageKind) (order : Order) (start end : ℕ) (body old bodied : List ℕ) → start + 12 ≤ length old → end ≡ length old - start
    → bodied ≡ old ++ body_octets version kind order (octets_body body) end
    → (take start bodied ≡ take start old) × (drop (start + 12) bodied ≡ with_octets version kind order body (drop (start + 12) old))
ended-behind version kind order start end body old bodied le is put =
    let more = body_octets version kind order (octets_body body) end in
    let front = drop (start + 12) old in
    let place : end ≡ 12 + length front = omega (arith, is, length-drop (start + 12) old, le) in (
      ap (take start) put ∙ take-append-le start old more (omega (arith, le)),
      ap (drop (start + 12)) put ∙ drop-append-le (start + 12) old more le ∙ ap (λ (p : ℕ). front ++ body_octets version kind order (octets_body body) p) place,
    )

-- the same, once its padding stands

gap-placed : (version : Version) (end x : ℕ) (xs : List ℕ) → gap_at version end ++ (x ∷ xs) ≡ placed_octets version end (x ∷ xs)
gap-placed V10 end x xs = refl
gap-placed V11 end x xs = refl
gap-placed V12 end x xs = refl

body-put : (version : Version) (kind : MessageKind) (order : Order) (end : ℕ) (body old gapped new : List ℕ) → HasBody kind → AreOctets body → (length body == 0) ≡ false → gapped ≡ old ++ gap_at version end → new ≡ gapped ++ body
    → new ≡ old ++ body_octets version kind order (octets_body body) end
body-put version kind order end [] old gapped new b are some gap put = absurd cc
body-put version kind order end (x ∷ xs) old gapped new b are some gap put =
    put ∙ ap (λ (ys : List ℕ). ys ++ (x ∷ xs)) gap ∙ append_assoc old (gap_at version end) (x ∷ xs) ∙ ap (λ (ys : List ℕ). old ++ ys) (gap-placed version end x xs ∙ sym (placed version kind order end (x ∷ xs) b are))

pub put-ok : (version : Version) (kind : MessageKind) (order : Order) (end : ℕ) (body old gapped new : List ℕ) → HasBody kind → AreOctets body → (length body == 0) ≡ false → gapped ≡ old ++ gap_at version end
    → (r : Result (Unit {0}) AllocError) → new ≡ (if is_ok r then gapped ++ body else gapped) → OnOk r (new ≡ old ++ body_octets version kind order (octets_body body) end)
put-ok version kind order end body old gapped new b are some filled (Ok x) put = body-put version kind order end body old gapped new b are some filled put
put-ok version kind order end body old gapped new b are some filled (Err x) put = tt

pub put-err : (version : Version) (end : ℕ) (body old gapped new : List ℕ) → gapped ≡ old ++ gap_at version end → (r : Result (Unit {0}) AllocError) → new ≡ (if is_ok r then gapped ++ body else gapped) → OnErr r (Keeps old new)
put-err version end body old gapped new filled (Ok x) put = tt
put-err version end body old gapped new filled (Err x) put = record { more = gap_at version end; parts = put ∙ filled }

-- a body of no octets
pub none-put : (version : Version) (kind : MessageKind) (order : Order) (end : ℕ) (body old : List ℕ) → HasBody kind → AreOctets body → (length body == 0) ≡ true → old ≡ old ++ body_octets version kind order (octets_body body) end
none-put version kind order end [] old b are none = sym (ap (λ (ys : List ℕ). old ++ ys) (placed version kind order end [] b are ∙ placed-none version end) ∙ append-nil old)
none-put version kind order end (x ∷ xs) old b are none = elim (test_eq (length (x ∷ xs)) 0) [ inl t ↦ absurd (omega (arith, t.1)) | inr t ↦ absurd (let n = t.0 in cc) ]

-- where it begins

pub begun-none : (version : Version) (end : ℕ) (body : List ℕ) → (length body == 0) ≡ true → end ≡ begun_at version end body
begun-none version end [] none = refl
begun-none version end (x ∷ xs) none = elim (test_eq (length (x ∷ xs)) 0) [ inl t ↦ absurd (omega (arith, t.1)) | inr t ↦ absurd (let n = t.0 in cc) ]

pub begun-some : (version : Version) (end : ℕ) (body : List ℕ) → (length body == 0) ≡ false → begins_at version end ≡ begun_at version end body
begun-some version end [] some = absurd cc
begun-some version end (x ∷ xs) some = refl

pub begun-later : (version : Version) (end : ℕ) (body : List ℕ) → end ≤ begun_at version end body
begun-later version end [] = omega arith
begun-later V10 end (x ∷ xs) = omega arith
begun-later V11 end (x ∷ xs) = omega arith
begun-later V12 end (x ∷ xs) = omega arith

-- the whole message, once its header stands

module _ (version : Version) (kind : MessageKind) (order : Order) (limit start : ℕ) (body old : List ℕ) (b : HasBody kind) (are : AreOctets body) (le : start + 12 ≤ length old) where
  abbrev end : ℕ
  end = length old - start

  pub ended-long : limit < begun_at version end body + length body → IsEnded {A = Unit {0}} limit (message_octets version kind order (with_octets version kind order body (drop (start + 12) old))) (Err refused.TooLong) (take start old) old
  ended-long over = (omega (arith, over, ended-length version kind order start body old b are le), record { more = drop start old; parts = sym (take-append-drop start old) })

  pub ended-kept : (new : List ℕ) → Keeps old new → Keeps (take start old) new
  ended-kept new k = record { more = drop start old ++ k.more; parts = k.parts ∙ ap (λ (xs : List ℕ). xs ++ k.more) (sym (take-append-drop start old)) ∙ append_assoc (take start old) (drop start old) k.more }

  module _ (e : ℕ) (is : e ≡ end) (bodied new : List ℕ) (put : bodied ≡ old ++ body_octets version kind order (octets_body body) e) where
    pub bodied-room : start + 12 ≤ length bodied
    bodied-room = omega (arith, le, ap length put, length-append old (body_octets version kind order (octets_body body) e))

    pub bodied-size : length bodied ≡ start + (begun_at version end body + length body)
    bodied-size =
        let more = body_octets version kind order (octets_body body) e in
        let same : length more ≡ length (placed_octets version end body) = ap length (placed version kind order e body b are) ∙ ap (λ (p : ℕ). length (placed_octets version p body)) is in
        omega (arith, le, ap length put, length-append old more, same, placed-length version end body)

    pub ended-ok : begun_at version end body + length body ≤ limit → new ≡ take start bodied ++ message_octets version kind order (drop (start + 12) bodied)
        → IsEnded {A = Unit {0}} limit (message_octets version kind order (with_octets version kind order body (drop (start + 12) old))) (Ok tt) (take start old) new
    ended-ok within h =
        let parts = ended-behind version kind order start e body old bodied le is put in (
          omega (arith, within, ended-length version kind order start body old b are le),
          h ∙ ap (λ (xs : List ℕ). xs ++ message_octets version kind order (drop (start + 12) bodied)) parts.0 ∙ ap (λ (xs : List ℕ). take start old ++ message_octets version kind order xs) parts.1,
        )

-- the same, by what the code computes: where the fields end, and where the body begins

module _ (version : Version) (kind : MessageKind) (order : Order) (limit start : ℕ) (body old : List ℕ) (b : HasBody kind) (are : AreOctets body) (le : start + 12 ≤ length old)
    (e n : ℕ) (is : e ≡ length old - start) (was : n ≡ begun_at version e body) where
  begun-same : n ≡ begun_at version (length old - start) body
  begun-same = was ∙ ap (λ (m : ℕ). begun_at version m body) is

  pub long-at : limit < n + length body → IsEnded {A = Unit {0}} limit (message_octets version kind order (with_octets version kind order body (drop (start + 12) old))) (Err refused.TooLong) (take start old) old
  long-at over = ended-long version kind order limit start body old b are le (omega (arith, over, begun-same))

  module _ (bodied new : List ℕ) (put : bodied ≡ old ++ body_octets version kind order (octets_body body) e) where
    pub size-at : length bodied ≡ start + (n + length body)
    size-at = omega (arith, bodied-size version kind order limit start body old b are le e is bodied new put, begun-same)

    pub ok-at : n + length body ≤ limit → new ≡ take start bodied ++ message_octets version kind order (drop (start + 12) bodied)
        → IsEnded {A = Unit {0}} limit (message_octets version kind order (with_octets version kind order body (drop (start + 12) old))) (Ok tt) (take start old) new
    ok-at within h = ended-ok version kind order limit start body old b are le e is bodied new put (omega (arith, within, begun-same)) h
