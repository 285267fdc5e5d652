-- Structs and sequences, part by part.
use Rattle.std.proofs.Common.{◌≡◌, ℕ, List, Ok, Err, refl, ap}
use Rattle.cdr_core.specs.declared.order.Order.{Order}
use Rattle.cdr_core.specs.Form as form
use Rattle.cdr_core.specs.Form.{Form, Forms}
use Rattle.cdr_core.specs.Reading.{◌>>=◌, Read, each_at, length_at, members_at, value_at}
use Rattle.cdr_core.specs.Value as value
use Rattle.cdr_core.specs.Value.{Value, Values}

-- a value of each type, in order: `members_at`, which computes on types that are written out
abbrev pub fields_at : Forms → Order → ℕ → List ℕ → Read Values
fields_at form.no_forms order o octets = Ok (value.no_values, o, octets)
fields_at (form.form t ts) order o octets = value_at t order o octets >>= λ x. fields_at ts order x.1 x.2 >>= λ xs. Ok (value.value x.0 xs.0, xs.1, xs.2)

pub members_is : (ts : Forms) (order : Order) (o : ℕ) (octets : List ℕ) → members_at ts order o octets ≡ fields_at ts order o octets
unfolding value_at
members_is form.no_forms order o octets = refl
members_is (form.form t ts) order o octets = by (value_at t order o octets) (λ p rest. members_is ts order p rest)
  where
    by : (r : Read Value) → ((p : ℕ) (rest : List ℕ) → members_at ts order p rest ≡ fields_at ts order p rest)
        → ◌≡◌ {A = Read Values} (r >>= λ x. members_at ts order x.1 x.2 >>= λ xs. Ok (value.value x.0 xs.0, xs.1, xs.2)) (r >>= λ x. fields_at ts order x.1 x.2 >>= λ xs. Ok (value.value x.0 xs.0, xs.1, xs.2))
    by (Ok x) same = ap (λ (r : Read Values). r >>= λ xs. Ok (value.value x.0 xs.0, xs.1, xs.2)) (same x.1 x.2)
    by (Err f) same = refl

pub structure_is : (ts : Forms) (order : Order) (o : ℕ) (octets : List ℕ) → ◌≡◌ {A = Read Value} (value_at (form.structure ts) order o octets) (fields_at ts order o octets >>= λ x. Ok (value.structure x.0, x.1, x.2))
unfolding value_at
structure_is ts order o octets = ap (λ (r : Read Values). r >>= λ x. Ok (value.structure x.0, x.1, x.2)) (members_is ts order o octets)

pub sequence_is : (bound : ℕ) (t : Form) (order : Order) (o : ℕ) (octets : List ℕ)
    → ◌≡◌ {A = Read Value} (value_at (form.sequence bound t) order o octets) (length_at order 0 bound o octets >>= λ n. each_at (value_at t order) n.0 n.1 n.2 >>= λ x. Ok (value.sequence x.0, x.1, x.2))
unfolding value_at
sequence_is bound t order o octets = refl
