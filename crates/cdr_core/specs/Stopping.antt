-- Which fault is reported, and at which place, if no front of the octets is a value of the type. The standard has no rule
-- for that; these are own rules. Parts are judged from left to right. The place is where the faulty part begins
-- after its padding, even if that lies past the end; at a NUL or a missing one it is that octet's.
use Rattle.std.specs.Prelude.{◌≡◌, ℕ, ◌+◌, ◌-◌, ◌<◌, ◌≤◌, ℤ, List, ◌∷◌, ◌++◌, length, ◌⊎◌}
use Rattle.std.specs.Ordering.{int_eq}
use Rattle.cdr_core.specs.declared.order.Order.{Order}
use Rattle.cdr_core.specs.declared.fault.Fault.{Fault}
use Rattle.cdr_core.specs.declared.fault.Kind.{Kind}
use Rattle.cdr_core.specs.declared.fault.Kind.TheVariants as kind
use Rattle.cdr_core.specs.Form as form
use Rattle.cdr_core.specs.Form.{Form, Forms, Cases, size}
use Rattle.cdr_core.specs.Value.{Value, Values, count, label}
use Rattle.cdr_core.specs.Numbers.{padding}
use Rattle.cdr_core.specs.Spelling.{InTurn, IsNumber, IsClean, Each, Chosen, Spells}

-- a fault of a kind at a place
abbrev pub fault_at : Kind → ℕ → Fault
fault_at kind place = record { kind = kind; at = place }

-- A front of the octets is A, and the rest has the fault f, as S says, at the offset where the front ends.
abbrev pub After : (A : ℕ → List ℕ → Type 0) (S : ℕ → List ℕ → Fault → Type 0) (o : ℕ) (octets : List ℕ) (f : Fault) → Type 0
After A S o octets f = InTurn A (λ p rest. S p rest f) o octets

-- fewer than n octets are left
abbrev pub Lacks : ℕ → ℕ → List ℕ → Fault → Type 0
Lacks n o octets f = (length octets < n) × (f ≡ fault_at kind.Short o)

-- fewer than n octets are left after the padding of a number: it is short at its place
abbrev pub LacksNumber : ℕ → ℕ → List ℕ → Fault → Type 0
LacksNumber n o octets f = (length octets < padding o n + n) × (f ≡ fault_at kind.Short (o + padding o n))

-- the octet of a boolean is neither 0 nor 1
abbrev pub IsBadBoolean : ℕ → List ℕ → Fault → Type 0
IsBadBoolean o octets f = (x : ℕ) × (rest : List ℕ) × (octets ≡ x ∷ rest) × (1 < x) × (f ≡ fault_at kind.BadBoolean o)

-- an unsigned long with the property P, which is a fault at its place
abbrev pub IsBadLong : (ℕ → Type 0) → Kind → Order → ℕ → List ℕ → Fault → Type 0
IsBadLong P kind order o octets f = (x : ℕ) × P x × (front : List ℕ) × (rest : List ℕ) × (octets ≡ front ++ rest) × IsNumber order 4 x o front × (f ≡ fault_at kind (o + padding o 4))

-- A length, of which `extra` octets do not count against the bound, and then that many octets or elements: the length is
-- cut off, or it is over the bound, or what follows it has a fault.
abbrev pub StopsAfterLength : Order → ℕ → ℕ → (ℕ → ℕ → List ℕ → Fault → Type 0) → ℕ → List ℕ → Fault → Type 0
StopsAfterLength order extra bound S o octets f =
    LacksNumber 4 o octets f ⊎ (IsBadLong (λ n. bound < n - extra) kind.OverBound order o octets f ⊎ ((n : ℕ) × (n - extra ≤ bound) × After (IsNumber order 4 n) (S n) o octets f))

-- among n octets a NUL stands before the last
abbrev pub HasInteriorNul : ℕ → ℕ → List ℕ → Fault → Type 0
HasInteriorNul n o octets f =
    (n ≤ length octets) × (text : List ℕ) × (rest : List ℕ) × (octets ≡ text ++ 0 ∷ rest) × IsClean text × (length text + 1 < n) × (f ≡ fault_at kind.InteriorNul (o + length text))

-- none of n octets is a NUL
abbrev pub HasNoNul : ℕ → ℕ → List ℕ → Fault → Type 0
HasNoNul n o octets f = (1 ≤ n) × (text : List ℕ) × (rest : List ℕ) × (octets ≡ text ++ rest) × IsClean text × (length text ≡ n) × (f ≡ fault_at kind.NoTerminator (o + (n - 1)))

-- a fault in the n octets of a string's text and its NUL; the length 0 has none
abbrev pub StopsInText : ℕ → ℕ → List ℕ → Fault → Type 0
StopsInText n o octets f = Lacks n o octets f ⊎ (HasInteriorNul n o octets f ⊎ HasNoNul n o octets f)

-- fewer than n elements are right, and the next has a fault
abbrev pub StopsInEach : (Value → ℕ → List ℕ → Type 0) → (ℕ → List ℕ → Fault → Type 0) → ℕ → ℕ → List ℕ → Fault → Type 0
StopsInEach one S n o octets f = (vs : Values) × (count vs < n) × After (Each one vs) S o octets f

-- Stops t order o octets f: where a value of type t is read from offset o on, f is the first fault.
abbrev mutual
  pub Stops : Form → Order → ℕ → List ℕ → Fault → Type 0
  Stops form.boolean order o octets f = LacksNumber 1 o octets f ⊎ IsBadBoolean o octets f
  Stops (form.number kind) order o octets f = LacksNumber (size kind) o octets f
  Stops (form.string bound) order o octets f = StopsAfterLength order 1 bound StopsInText o octets f
  Stops (form.octets bound) order o octets f = StopsAfterLength order 0 bound Lacks o octets f
  Stops (form.sequence bound t) order o octets f = StopsAfterLength order 0 bound (StopsInEach (Spells t order) (Stops t order)) o octets f
  Stops (form.array n t) order o octets f = StopsInEach (Spells t order) (Stops t order) n o octets f
  Stops (form.enumeration n) order o octets f = LacksNumber 4 o octets f ⊎ IsBadLong (λ x. n ≤ x) kind.BadEnum order o octets f
  Stops (form.structure ts) order o octets f = StopsInMembers ts order o octets f
  Stops (form.union d cs) order o octets f = Stops d order o octets f ⊎ ((v : Value) × After (Spells d order v) (StopsInChosen cs order (label v)) o octets f)

  -- in a struct, the first member with a fault
  pub StopsInMembers : Forms → Order → ℕ → List ℕ → Fault → Type 0
  StopsInMembers form.no_forms order o octets f = ⊥
  StopsInMembers (form.form t ts) order o octets f = Stops t order o octets f ⊎ ((v : Value) × After (Spells t order v) (StopsInMembers ts order) o octets f)

  -- in the member of a union with that label, else in the default
  pub StopsInChosen : Cases → Order → ℤ → ℕ → List ℕ → Fault → Type 0
  StopsInChosen form.otherwise_nothing order l o octets f = ⊥
  StopsInChosen (form.otherwise t) order l o octets f = Stops t order o octets f
  StopsInChosen (form.labelled k t cs) order l o octets f = Chosen (int_eq k l) (Stops t order o octets f) (StopsInChosen cs order l o octets f)
