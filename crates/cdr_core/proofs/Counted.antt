-- Numbers one after another, of which any octets are some, passed over in one step.
use Rattle.std.proofs.Common.{◌≡◌, ℕ, zero, suc, ◌+◌, ◌*◌, ◌≤◌, ℤ, List, length, drop, take, Ok, refl, sym, ap, ◌∙◌, arith}
use Rattle.std.proofs.lemmas.List.{length-drop}
use Rattle.cdr_core.specs.declared.order.Order.{Order}
use Rattle.cdr_core.specs.Form as form
use Rattle.cdr_core.specs.Form.{Form, Number, size}
use Rattle.cdr_core.specs.Numbers.{meaning, number_of, padding}
use Rattle.cdr_core.specs.Private.{passing, IsNumberOf}
use Rattle.cdr_core.specs.Reading.{◌>>=◌, Read, each_at, number_at, part_at, taken, value_at, whole_at}
use Rattle.cdr_core.specs.Value as value
use Rattle.cdr_core.specs.Value.{Value}
use Rattle.cdr_core.proofs.Following.{drop_drop}
use Rattle.cdr_core.proofs.Here.{number_here}
use Rattle.cdr_core.proofs.Turns.{passing-then, then}

no_more : (kind : Number) (o : ℕ) → padding (o + padding o (size kind)) (size kind) ≡ 0
no_more form.char o = omega arith
no_more form.octet o = omega arith
no_more form.short o = omega arith
no_more form.ushort o = omega arith
no_more form.long o = omega arith
no_more form.ulong o = omega arith
no_more form.longlong o = omega arith
no_more form.ulonglong o = omega arith

none_next : (kind : Number) (p : ℕ) → padding p (size kind) ≡ 0 → padding (p + size kind) (size kind) ≡ 0
none_next form.char p h = omega arith
none_next form.octet p h = omega arith
none_next form.short p h = omega arith
none_next form.ushort p h = omega arith
none_next form.long p h = omega arith
none_next form.ulong p h = omega arith
none_next form.longlong p h = omega arith
none_next form.ulonglong p h = omega arith

times_more : (kind : Number) (m : ℕ) → suc m * size kind ≡ size kind + m * size kind
times_more form.char m = omega arith
times_more form.octet m = omega arith
times_more form.short m = omega arith
times_more form.ushort m = omega arith
times_more form.long m = omega arith
times_more form.ulong m = omega arith
times_more form.longlong m = omega arith
times_more form.ulonglong m = omega arith

module _ (kind : Number) (order : Order) where
  -- the number that the next octets are
  next : List ℕ → Value
  next octets = value.number kind (meaning kind (number_of order (size kind) (take (size kind) octets)))

  whole : (p : ℕ) (octets : List ℕ) → size kind ≤ length octets → padding p (size kind) ≡ 0 → value_at (form.number kind) order p octets ≡ Ok (next octets, p + size kind, drop (size kind) octets)
  unfolding value_at whole_at next
  whole p octets le none = rw (number_here order (size kind) p (number_of order (size kind) (take (size kind) octets)) octets le none refl) refl

  -- from a place that needs no padding
  run : (m p : ℕ) (octets : List ℕ) → padding p (size kind) ≡ 0 → m * size kind ≤ length octets
      → passing (each_at (value_at (form.number kind) order) m p octets) ≡ Ok (tt, p + m * size kind, drop (m * size kind) octets)
  unfolding each_at
  run zero p octets none le =
      let z : 0 * size kind ≡ 0 = omega arith in
      let here : p ≡ p + 0 = omega arith in
      ap (λ (q : ℕ). Ok (tt, q, octets)) here ∙ ap (λ k. Ok (tt, p + k, drop k octets)) (sym z)
  run (suc m) p octets none le =
      let n = size kind in
      let more = times_more kind m in
      let left : m * n ≤ length (drop n octets) = omega (arith, length-drop n octets, more, le) in
      let first = whole p octets (omega (arith, more, le)) none in
      let ih = run m (p + n) (drop n octets) (none_next kind p none) left in
      let place : (p + n) + m * n ≡ p + suc m * n = omega (arith, more) in
      let rest : drop (m * n) (drop n octets) ≡ drop (suc m * n) octets = drop_drop n (m * n) octets ∙ ap (λ k. drop k octets) (sym more) in
      ap (λ (r : Read Value). passing (r >>= λ x. then x.0 (each_at (value_at (form.number kind) order) m x.1 x.2))) first
      ∙ passing-then (next octets) (each_at (value_at (form.number kind) order) m (p + n) (drop n octets)) ∙ ih
      ∙ ap (λ (q : ℕ). Ok (tt, q, drop (m * n) (drop n octets))) place ∙ ap (λ (xs : List ℕ). Ok (tt, p + suc m * n, xs)) rest

  -- the steps from its octets to a number
  abbrev as_number : Read (List ℕ) → Read ℕ
  as_number r = r >>= λ x. Ok (number_of order (size kind) x.0, x.1, x.2)

  abbrev as_whole : Read ℕ → Read ℤ
  as_whole r = r >>= λ x. Ok (meaning kind x.0, x.1, x.2)

  abbrev as_value : Read ℤ → Read Value
  as_value r = r >>= λ x. Ok (value.number kind x.0, x.1, x.2)

  -- a number behind its padding
  behind : (o : ℕ) (octets : List ℕ) → value_at (form.number kind) order o octets ≡ value_at (form.number kind) order (o + padding o (size kind)) (drop (padding o (size kind)) octets)
  unfolding value_at whole_at number_at part_at
  behind o octets =
      let n = size kind in
      let p = o + padding o n in
      let left = drop (padding o n) octets in
      let here : p ≡ p + 0 = omega arith in
      let step : taken n p left ≡ taken n (p + padding p n) (drop (padding p n) left) = ap (λ q. taken n q left) here ∙ ap (λ k. taken n (p + k) (drop k left)) (sym (no_more kind o)) in
      ap (λ (r : Read (List ℕ)). as_value (as_whole (as_number r))) step

  numbers_pass : (m o : ℕ) (octets : List ℕ) → padding o (size kind) + suc m * size kind ≤ length octets
      → passing (each_at (value_at (form.number kind) order) (suc m) o octets) ≡ Ok (tt, o + (padding o (size kind) + suc m * size kind), drop (padding o (size kind) + suc m * size kind) octets)
  unfolding each_at
  numbers_pass m o octets le =
      let n = size kind in
      let k = padding o n in
      let left : suc m * n ≤ length (drop k octets) = omega (arith, length-drop k octets, le) in
      let place : (o + k) + suc m * n ≡ o + (k + suc m * n) = omega arith in
      ap (λ (r : Read Value). passing (r >>= λ x. then x.0 (each_at (value_at (form.number kind) order) m x.1 x.2))) (behind o octets)
      ∙ run (suc m) (o + k) (drop k octets) (no_more kind o) left
      ∙ ap (λ (q : ℕ). Ok (tt, q, drop (suc m * n) (drop k octets))) place ∙ ap (λ (xs : List ℕ). Ok (tt, o + (k + suc m * n), xs)) (drop_drop k (suc m * n) octets)

pub run_passes : (t : Form) (n : ℕ) (order : Order) (count o k : ℕ) (octets : List ℕ) → IsNumberOf t n → 1 ≤ count → k ≡ padding o n + count * n → k ≤ length octets
    → passing (each_at (value_at t order) count o octets) ≡ Ok (tt, o + k, drop k octets)
run_passes (form.number kind) n order (suc m) o k octets is some long le = rw (long, is) (numbers_pass kind order m o octets (rw (long, is) at le))
run_passes (form.number kind) n order zero o k octets is some long le = absurd (omega arith)
run_passes form.boolean n order count o k octets is some long le = absurd is
run_passes (form.string b) n order count o k octets is some long le = absurd is
run_passes (form.octets b) n order count o k octets is some long le = absurd is
run_passes (form.sequence b t) n order count o k octets is some long le = absurd is
run_passes (form.array b t) n order count o k octets is some long le = absurd is
run_passes (form.enumeration b) n order count o k octets is some long le = absurd is
run_passes (form.structure ts) n order count o k octets is some long le = absurd is
run_passes (form.union d cs) n order count o k octets is some long le = absurd is
