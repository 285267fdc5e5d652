-- Reading from left to right, up to the first fault, as a function of the octets and the place o of the first. The laws say
-- that it agrees with Spelling and Stopping.
use Rattle.std.specs.Prelude.{ℕ, zero, suc, ◌+◌, ◌-◌, ℤ, Bool, true, false, List, [], length, take, drop, Result, Ok, Err, nat_lt, ◌==◌, if◌then◌else◌}
use Rattle.std.specs.List.{position_or_len}
use Rattle.std.specs.Ordering.{int_eq}
use Rattle.cdr_core.specs.declared.order.Order.{Order}
use Rattle.cdr_core.specs.declared.fault.Fault.{Fault}
use Rattle.cdr_core.specs.declared.fault.Kind.{Kind}
use Rattle.cdr_core.specs.declared.fault.Kind.TheVariants as kind
use Rattle.cdr_core.specs.Form as form
use Rattle.cdr_core.specs.Form.{Form, Forms, Cases, Number, size}
use Rattle.cdr_core.specs.Value as value
use Rattle.cdr_core.specs.Value.{Value, Values, label}
use Rattle.cdr_core.specs.Numbers.{padding, number_of, meaning}
use Rattle.cdr_core.specs.Stopping.{fault_at}

-- the first fault ends a sequence of steps
infixl 10 ◌>>=◌
abbrev pub ◌>>=◌ : {A B : Type 0} → Result A Fault → (A → Result B Fault) → Result B Fault
(Ok x) >>= f = f x
(Err e) >>= f = Err e

-- what reading gives: a value, the place after it and the octets from there on; or the first fault
abbrev pub Read : Type 0 → Type 0
Read A = Result (A × ℕ × List ℕ) Fault

-- a fault of a kind at a place
abbrev pub fault : {A : Type 0} → Kind → ℕ → Result A Fault
fault kind place = Err (fault_at kind place)

-- the next n octets
abbrev pub taken : ℕ → ℕ → List ℕ → Read (List ℕ)
taken n o octets = if nat_lt (length octets) n then fault kind.Short o else Ok (take n octets, o + n, drop n octets)

-- CDR 9.3.1.1: the next n octets after their padding; if they are cut off, the fault is at their place, even past the end
unfoldable pub part_at : ℕ → ℕ → List ℕ → Read (List ℕ)
part_at n o octets = taken n (o + padding o n) (drop (padding o n) octets)

-- CDR 9.3.1.1, CDR 9.3.1.2: a number of n octets after its padding
unfoldable pub number_at : Order → ℕ → ℕ → List ℕ → Read ℕ
number_at order n o octets = do
  x ← part_at n o octets
  Ok (number_of order n x.0, x.1, x.2)

-- CDR 9.3.1.2, CDR 9.3.1.4, CDR 9.3.1.6: a whole number
unfoldable pub whole_at : Order → Number → ℕ → List ℕ → Read ℤ
whole_at order kind o octets = do
  x ← number_at order (size kind) o octets
  Ok (meaning kind x.0, x.1, x.2)

-- CDR 9.3.1.5: a boolean is the octet 0 or 1
unfoldable pub boolean_at : Order → ℕ → List ℕ → Read Bool
boolean_at order o octets = do
  x ← number_at order 1 o octets
  if x.0 == 0 then Ok (false, x.1, x.2) else (if x.0 == 1 then Ok (true, x.1, x.2) else fault kind.BadBoolean o)

-- CDR 9.3.2.6: an enumeration is an unsigned long, the ordinal from 0
unfoldable pub ordinal_at : Order → ℕ → ℕ → List ℕ → Read ℕ
ordinal_at order limit o octets = do
  x ← number_at order 4 o octets
  if nat_lt x.0 limit then Ok x else fault kind.BadEnum (o + padding o 4)

-- the NUL is the octet 0
abbrev pub is_nul : ℕ → Bool
is_nul x = x == 0

-- the index of the first NUL, or the length if there is none
abbrev pub to_nul : List ℕ → ℕ
to_nul octets = position_or_len is_nul octets

-- CDR 9.3.2.7: n octets, of which the last and no other is a NUL. Own rule: with n = 0 the text is empty.
unfoldable pub text_at : ℕ → ℕ → List ℕ → Read (List ℕ)
text_at n o octets = if n == 0 then Ok ([], o, octets) else (taken n o octets >>= λ x.
    if nat_lt (to_nul x.0) (n - 1) then fault kind.InteriorNul (o + to_nul x.0) else (if to_nul x.0 == n then fault kind.NoTerminator (o + (n - 1)) else Ok (take (n - 1) x.0, x.1, x.2)))

-- a length, an unsigned long, that is at most the bound; `extra` octets of it do not count against the bound
unfoldable pub length_at : Order → ℕ → ℕ → ℕ → List ℕ → Read ℕ
length_at order extra bound o octets = do
  x ← number_at order 4 o octets
  if nat_lt bound (x.0 - extra) then fault kind.OverBound (o + padding o 4) else Ok x

-- CDR 9.3.2.7: a string is its length with the NUL, its octets, and the NUL
unfoldable pub string_at : Order → ℕ → ℕ → List ℕ → Read (List ℕ)
string_at order bound o octets = do
  x ← length_at order 1 bound o octets
  text_at x.0 x.1 x.2

-- CDR 9.3.2.5: a sequence of octets is its length and then its octets
unfoldable pub octets_at : Order → ℕ → ℕ → List ℕ → Read (List ℕ)
octets_at order bound o octets = do
  x ← length_at order 0 bound o octets
  taken x.0 x.1 x.2

-- n values, one after another
unfoldable pub each_at : (ℕ → List ℕ → Read Value) → ℕ → ℕ → List ℕ → Read Values
each_at one zero o octets = Ok (value.no_values, o, octets)
each_at one (suc n) o octets = do
  x ← one o octets
  xs ← each_at one n x.1 x.2
  Ok (value.value x.0 xs.0, xs.1, xs.2)

-- CDR 9.3.2: a value of a type
unfoldable mutual
  pub value_at : Form → Order → ℕ → List ℕ → Read Value
  value_at form.boolean order o octets = do
    x ← boolean_at order o octets
    Ok (value.boolean x.0, x.1, x.2)
  value_at (form.number kind) order o octets = do
    x ← whole_at order kind o octets
    Ok (value.number kind x.0, x.1, x.2)
  value_at (form.string bound) order o octets = do
    x ← string_at order bound o octets
    Ok (value.string x.0, x.1, x.2)
  value_at (form.octets bound) order o octets = do
    x ← octets_at order bound o octets
    Ok (value.octets x.0, x.1, x.2)
  value_at (form.sequence bound t) order o octets = do
    n ← length_at order 0 bound o octets
    x ← each_at (value_at t order) n.0 n.1 n.2
    Ok (value.sequence x.0, x.1, x.2)
  value_at (form.array n t) order o octets = do
    x ← each_at (value_at t order) n o octets
    Ok (value.array x.0, x.1, x.2)
  value_at (form.enumeration n) order o octets = do
    x ← ordinal_at order n o octets
    Ok (value.enumeration x.0, x.1, x.2)
  value_at (form.structure ts) order o octets = do
    x ← members_at ts order o octets
    Ok (value.structure x.0, x.1, x.2)
  value_at (form.union d cs) order o octets = do
    x ← value_at d order o octets
    m ← chosen_at cs order (label x.0) x.1 x.2
    Ok (value.union x.0 m.0, m.1, m.2)

  -- a value of each type, in order
  pub members_at : Forms → Order → ℕ → List ℕ → Read Values
  members_at form.no_forms order o octets = Ok (value.no_values, o, octets)
  members_at (form.form t ts) order o octets = do
    x ← value_at t order o octets
    xs ← members_at ts order x.1 x.2
    Ok (value.value x.0 xs.0, xs.1, xs.2)

  -- CDR 9.3.2.3: the member with that label, else the default, else nothing
  pub chosen_at : Cases → Order → ℤ → ℕ → List ℕ → Read Values
  chosen_at form.otherwise_nothing order l o octets = Ok (value.no_values, o, octets)
  chosen_at (form.otherwise t) order l o octets = do
    x ← value_at t order o octets
    Ok (value.value x.0 value.no_values, x.1, x.2)
  chosen_at (form.labelled k t cs) order l o octets = if int_eq k l then (value_at t order o octets >>= λ x. Ok (value.value x.0 value.no_values, x.1, x.2)) else chosen_at cs order l o octets
