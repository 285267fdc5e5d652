-- A union over short with three members, step by step.
use Rattle.std.proofs.Common.{◌≡◌, ◌≢◌, ℕ, ◌+◌, ℤ, pos, Bool, true, false, List, Ok, Err, refl, sym}
use Rattle.std.proofs.lemmas.Bool.Decides.{Decides-int_eq}
use Rattle.std.specs.Ordering.{int_eq}
use Rattle.cdr_core.specs.declared.fault.Fault.{Fault}
use Rattle.cdr_core.specs.declared.order.Order.{Order}
use Rattle.cdr_core.specs.Form.{Form}
use Rattle.cdr_core.specs.Numbers.{padding}
use Rattle.cdr_core.specs.Parts.{short, short_value}
use Rattle.cdr_core.specs.Reading.{chosen_at, value_at}
use Rattle.cdr_core.specs.Value.{Value}
use Rattle.giop_core.specs.declared.error.MessageFault.TheVariants.{BadAddressing, Cdr}
use Rattle.giop_core.specs.Written.{alternative}
use Rattle.giop_core.specs.Messages.{field_at}
use Rattle.giop_core.specs.Rows.{choice}

-- one label isn't another
pub unequal : (y z : ℤ) → z ≢ y → int_eq y z ≡ false
unequal y z n = by (int_eq y z) (Decides-int_eq y z).0
  where
    by : (b : Bool) → (b ≡ true → y ≡ z) → b ≡ false
    by false h = refl
    by true h = absurd (n (sym (h refl)))

module _ (a b c : Form) (order : Order) (o : ℕ) (octets : List ℕ) where
  pub choice_short : (f : Fault) → value_at short order o octets ≡ Err f → field_at (choice a b c) order o octets ≡ Err (Cdr f)
  unfolding value_at
  choice_short f e = rw e refl

  module _ (p : ℕ) (rest : List ℕ) where
    pub choice_0 : (v : Value) (q : ℕ) (more : List ℕ) → value_at short order o octets ≡ Ok (short_value (pos 0), p, rest) → value_at a order p rest ≡ Ok (v, q, more)
        → field_at (choice a b c) order o octets ≡ Ok (alternative (pos 0) v, q, more)
    unfolding value_at chosen_at
    choice_0 v q more d e = rw (d, e) refl

    pub choice_1 : (v : Value) (q : ℕ) (more : List ℕ) → value_at short order o octets ≡ Ok (short_value (pos 1), p, rest) → value_at b order p rest ≡ Ok (v, q, more)
        → field_at (choice a b c) order o octets ≡ Ok (alternative (pos 1) v, q, more)
    unfolding value_at chosen_at
    choice_1 v q more d e = rw (d, e) refl

    pub choice_2 : (v : Value) (q : ℕ) (more : List ℕ) → value_at short order o octets ≡ Ok (short_value (pos 2), p, rest) → value_at c order p rest ≡ Ok (v, q, more)
        → field_at (choice a b c) order o octets ≡ Ok (alternative (pos 2) v, q, more)
    unfolding value_at chosen_at
    choice_2 v q more d e = rw (d, e) refl

    pub choice_0_stops : (f : Fault) → value_at short order o octets ≡ Ok (short_value (pos 0), p, rest) → value_at a order p rest ≡ Err f → field_at (choice a b c) order o octets ≡ Err (Cdr f)
    unfolding value_at chosen_at
    choice_0_stops f d e = rw (d, e) refl

    pub choice_1_stops : (f : Fault) → value_at short order o octets ≡ Ok (short_value (pos 1), p, rest) → value_at b order p rest ≡ Err f → field_at (choice a b c) order o octets ≡ Err (Cdr f)
    unfolding value_at chosen_at
    choice_1_stops f d e = rw (d, e) refl

    pub choice_2_stops : (f : Fault) → value_at short order o octets ≡ Ok (short_value (pos 2), p, rest) → value_at c order p rest ≡ Err f → field_at (choice a b c) order o octets ≡ Err (Cdr f)
    unfolding value_at chosen_at
    choice_2_stops f d e = rw (d, e) refl

    pub choice_unknown : (z : ℤ) → value_at short order o octets ≡ Ok (short_value z, p, rest) → z ≢ pos 0 → z ≢ pos 1 → z ≢ pos 2
        → field_at (choice a b c) order o octets ≡ Err (BadAddressing (o + padding o 2))
    unfolding value_at chosen_at
    choice_unknown z d n0 n1 n2 = rw (d, unequal (pos 0) z n0, unequal (pos 1) z n1, unequal (pos 2) z n2) refl
