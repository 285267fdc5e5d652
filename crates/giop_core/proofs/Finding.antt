-- Where a cursor stands after what it read, and where that lies.
use Rattle.std.proofs.Common.{◌≡◌, ℕ, ◌+◌, ◌-◌, ◌≤◌, List, [], ◌∷◌, ◌++◌, length, take, drop, Result, Ok, Err, inl, inr, refl, sym, ap, subst, ◌∙◌, arith, append_assoc, length-append}
use Rattle.std.proofs.lemmas.List.{drop-drop, drop_at, length-drop, length-take-le, take-append-drop, take_at}
use Rattle.std.specs.Prelude.{IsOk, pos, slice_range}
use Rattle.cdr_core.proofs.Found.{found}
use Rattle.cdr_core.proofs.Taken.{length_takes}
use Rattle.cdr_core.specs.Cursor.{Gives, Position}
use Rattle.cdr_core.specs.declared.fault.Fault.{Fault}
use Rattle.cdr_core.specs.declared.order.Order.{Order}
use Rattle.cdr_core.specs.Form.{Form}
use Rattle.cdr_core.specs.Numbers.{padding}
use Rattle.cdr_core.specs.Parts.{most, raw, text}
use Rattle.cdr_core.specs.Reading.{length_at, value_at}
use Rattle.cdr_core.specs.Spelling.{IsText, Spells, Takes}
use Rattle.cdr_core.specs.Value as value
use Rattle.cdr_core.specs.Value.{Value}
use Rattle.giop_core.specs.declared.target_address.Target.{Target}
use Rattle.giop_core.specs.Lent.{addressed_by}
use Rattle.giop_core.specs.Messages.{field_at}
use Rattle.giop_core.specs.Places.{IsOn, object_read, target_behind}
use Rattle.giop_core.specs.Private.{target_value}
use Rattle.giop_core.specs.Rows.{target}
use Rattle.giop_core.specs.Written.{alternative}
use Rattle.giop_core.proofs.Again.{object_again}
use Rattle.giop_core.proofs.Spelled.{known_well}

-- further on, and further on from there
pub on_on : (o : ℕ) (octets : List ℕ) (c d : Position) → IsOn o octets c → IsOn c.place c.rest d → IsOn o octets d
on_on o octets c d (a, b, e) (f, g, h) =
    let there : length c.rest ≡ length octets - (c.place - o) = ap length e ∙ length-drop (c.place - o) octets in
    let far : (c.place - o) + (d.place - c.place) ≡ d.place - o = omega (arith, a, f) in
    (omega (arith, a, f), omega (arith, a, b, g, there), h ∙ ap (drop (d.place - c.place)) e ∙ drop-drop (d.place - c.place) (c.place - o) octets ∙ ap (λ n. drop n octets) far)

-- a front is taken
taken_on : (A : ℕ → List ℕ → Type 0) (o : ℕ) (octets : List ℕ) (c : Position) → Takes A o octets c.place c.rest → IsOn o octets c
taken_on A o octets c t =
    let long : length octets ≡ length t.front + length c.rest = ap length t.parts ∙ length-append t.front c.rest in
    let by : c.place - o ≡ length t.front = omega (arith, t.place) in
    (omega (arith, t.place), omega (arith, t.place, long), sym (rw (t.parts, by) (drop_at t.front c.rest (length t.front) refl)))

pub read_on : (t : Form) (order : Order) (o : ℕ) (octets : List ℕ) (v : Value) (c : Position) → value_at t order o octets ≡ Ok (v, c.place, c.rest) → IsOn o octets c
read_on t order o octets v c e = taken_on _ o octets c (found t order o octets v c.place c.rest e)

pub field_on : (order : Order) (o : ℕ) (octets : List ℕ) (v : Value) (c : Position) → field_at target order o octets ≡ Ok (v, c.place, c.rest) → IsOn o octets c
field_on order o octets v c e = read_on target order o octets v c (known_well (o + padding o 2) (value_at target order o octets) v c.place c.rest e).0

-- .. so it does after a call that reads, or fails
pub gives_on : {X : Type 0} (view : X → Value) (r : Result X Fault) (t : Form) (order : Order) (octets : List ℕ) (old new : Position) → Gives view r (value_at t order) old new → IsOn 12 octets old → IsOn 12 octets new
gives_on view (Ok x) t order octets old new g on = on_on 12 octets old new on (read_on t order old.place old.rest (view x) new g.0)
gives_on view (Err f) t order octets old new g on = subst (IsOn 12 octets) (sym g.1) on

pub counted_on : (order : Order) (o : ℕ) (octets : List ℕ) (n : ℕ) (c : Position) → length_at order 0 most o octets ≡ Ok (n, c.place, c.rest) → IsOn o octets c
counted_on order o octets n c e = taken_on _ o octets c (length_takes order 0 most o octets n c.place c.rest e).0

-- what was read lies where it ends

lies : (octets A k ys : List ℕ) (a b : ℕ) → octets ≡ A ++ (k ++ ys) → a ≡ length A → b ≡ a + length k → slice_range octets a b ≡ k
lies octets A k ys a b e at to =
    let by : b - a ≡ length k = omega (arith, to) in
    rw (e, by, at) (ap (take (length k)) (drop_at A (k ++ ys) (length A) refl) ∙ take_at k ys (length k) refl)

split : (octets : List ℕ) (n : ℕ) (rest f k ys : List ℕ) → rest ≡ drop n octets → rest ≡ (f ++ k) ++ ys → octets ≡ (take n octets ++ f) ++ (k ++ ys)
split octets n rest f k ys e parts =
    sym (take-append-drop n octets) ∙ ap (λ xs. take n octets ++ xs) (sym e ∙ parts ∙ append_assoc f k ys) ∙ sym (append_assoc (take n octets) f (k ++ ys))

before : (octets : List ℕ) (n : ℕ) (f : List ℕ) → n ≤ length octets → length (take n octets ++ f) ≡ n + length f
before octets n f le = length-append (take n octets) f ∙ ap (λ m. m + length f) (length-take-le n octets le)

module _ (order : Order) (octets : List ℕ) (old : Position) (on : IsOn 12 octets old) (k : List ℕ) (start p : ℕ) (ys : List ℕ) (is : 12 + start ≡ p) where
  -- what ends where the reading ends
  ending_lies : (front f : List ℕ) → old.rest ≡ front ++ ys → p ≡ old.place + length front → front ≡ f ++ k → (length k ≤ start) × (slice_range octets (start - length k) start ≡ k)
  ending_lies front f parts place ends =
      let long : length front ≡ length f + length k = ap length ends ∙ length-append f k in
      let n : old.place - 12 ≤ length octets = omega (arith, on.0, on.1) in
      let A = take (old.place - 12) octets ++ f in
      let many : length A ≡ (old.place - 12) + length f = before octets (old.place - 12) f n in
      let less : length k ≤ start = omega (arith, on.0, place, long, is) in (
        less,
        lies octets A k ys (start - length k) start (split octets (old.place - 12) old.rest f k ys on.2 (parts ∙ ap (λ xs. xs ++ ys) ends))
            (omega (arith, on.0, place, long, many, is)) (omega (arith, less)),
      )

  pub raw_lies : value_at raw order old.place old.rest ≡ Ok (value.octets k, p, ys) → (length k ≤ start) × (slice_range octets (start - length k) start ≡ k)
  raw_lies e =
      let t = found raw order old.place old.rest (value.octets k) p ys e in
      let two = t.holds.1 in
      ending_lies t.front two.front t.parts t.place (two.parts ∙ ap (λ xs. two.front ++ xs) two.second)

  pub key_lies : field_at target order old.place old.rest ≡ Ok (alternative (pos 0) (value.octets k), p, ys) → (length k ≤ start) × (slice_range octets (start - length k) start ≡ k)
  key_lies e =
      let t = found target order old.place old.rest (alternative (pos 0) (value.octets k)) p ys (known_well (old.place + padding old.place 2) (value_at target order old.place old.rest) (alternative (pos 0) (value.octets k)) p ys e).0 in
      let one = t.holds in
      let two = one.second.1 in
      ending_lies t.front (one.front ++ two.front) t.parts t.place
      (one.parts ∙ ap (λ xs. one.front ++ xs) (two.parts ∙ ap (λ xs. two.front ++ xs) two.second) ∙ sym (append_assoc one.front two.front k))

  text_in : (t : Takes (Spells text order (value.string k)) old.place old.rest p ys) → IsText t.holds.1 k (old.place + length t.holds.2.front) t.holds.2.rest
      → (1 ≤ start) × (length k ≤ start - 1) × (slice_range octets ((start - 1) - length k) (start - 1) ≡ k)
  text_in t (inl (none, empty, nothing)) =
      let two = t.holds.2 in
      let long : length t.front ≡ length two.front + length two.rest = ap length two.parts ∙ length-append two.front two.rest in
      let no : length k ≡ 0 = ap length empty in
      let same : (start - 1) - ((start - 1) - length k) ≡ 0 = omega (arith, no) in
      (omega (arith, on.0, t.place, long, two.first.long, is), omega (arith, no), rw same (sym empty))
  text_in t (inr (n, clean, ends)) =
      let two = t.holds.2 in
      let front : t.front ≡ (two.front ++ k) ++ (0 ∷ []) = two.parts ∙ ap (λ xs. two.front ++ xs) ends ∙ sym (append_assoc two.front k (0 ∷ [])) in
      let whole : old.rest ≡ (two.front ++ k) ++ (0 ∷ ys) = t.parts ∙ ap (λ xs. xs ++ ys) front ∙ append_assoc (two.front ++ k) (0 ∷ []) ys in
      let long : length t.front ≡ (length two.front + length k) + 1 = ap length front ∙ length-append (two.front ++ k) (0 ∷ []) ∙ ap (λ m. m + 1) (length-append two.front k) in
      let le : old.place - 12 ≤ length octets = omega (arith, on.0, on.1) in
      let A = take (old.place - 12) octets ++ two.front in
      let many : length A ≡ (old.place - 12) + length two.front = before octets (old.place - 12) two.front le in
      let less : length k ≤ start - 1 = omega (arith, on.0, t.place, long, is) in (
        omega (arith, on.0, t.place, long, is),
        less,
        lies octets A k (0 ∷ ys) ((start - 1) - length k) (start - 1) (split octets (old.place - 12) old.rest two.front k (0 ∷ ys) on.2 whole)
            (omega (arith, on.0, t.place, long, many, is)) (omega (arith, less)),
      )

  pub text_lies : value_at text order old.place old.rest ≡ Ok (value.string k, p, ys) → (1 ≤ start) × (length k ≤ start - 1) × (slice_range octets ((start - 1) - length k) (start - 1) ≡ k)
  text_lies e = let t = found text order old.place old.rest (value.string k) p ys e in text_in t t.holds.2.second

-- a target that is read again

pub other_read : (order : Order) (octets : List ℕ) (start : ℕ) (old : Position) (t : Target) (p : ℕ) (ys : List ℕ) → 12 + start ≡ old.place → old.rest ≡ drop start octets
    → field_at target order old.place old.rest ≡ Ok (target_value t, p, ys) → (object_read (target_behind start order octets) ≡ addressed_by t) × IsOk (target_behind start order octets)
other_read order octets start old t p ys place rest e =
    let there : target_behind start order octets ≡ Ok (target_value t, p, ys) = rw (place, ← rest) e in
    (ap object_read there ∙ object_again (addressed_by t), rw there refl)
