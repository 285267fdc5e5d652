-- CDR 9.3.3: encapsulations, octets that name their own byte order.
use Rattle.std.specs.Prelude.{◌≡◌, ℕ, true, List, [], ◌∷◌, ◌++◌, Result, Ok, ◌⊎◌}
use Rattle.cdr_core.specs.declared.fault.Fault.{Fault}
use Rattle.cdr_core.specs.declared.fault.Kind.TheVariants as kind
use Rattle.cdr_core.specs.declared.order.Order.{Order}
use Rattle.cdr_core.specs.declared.order.Order.TheVariants.{Big, Little}
use Rattle.cdr_core.specs.Form as form
use Rattle.cdr_core.specs.Reading.{◌>>=◌, Read, value_at}
use Rattle.cdr_core.specs.Stopping.{fault_at, IsBadBoolean}
use Rattle.cdr_core.specs.Value as value
use Rattle.cdr_core.specs.Value.{Value}

-- CDR 9.3.3: the octet that names a byte order
abbrev pub byte_order : Order → ℕ
byte_order Big = 0
byte_order Little = 1

-- CDR 9.3.3: an encapsulation begins with the octet of its byte order, from which alignment counts; A holds of what
-- follows. That octets after the value are ignored is an own rule.
pub record IsEncapsulated (A : Order → ℕ → List ℕ → Type 0) (octets : List ℕ) : Type 0 where
  pub order : Order
  pub front : List ℕ
  pub rest : List ℕ
  pub parts : octets ≡ byte_order order ∷ (front ++ rest)
  pub holds : A order 1 front

-- the byte order that the boolean names: true for little-endian
abbrev pub order_of : Value → Order
order_of (value.boolean true) = Little
order_of _ = Big

-- the byte order of an encapsulation is read
unfoldable pub order_at : List ℕ → Read Order
order_at octets = do
  x ← value_at form.boolean Big 0 octets
  Ok (order_of x.0, x.1, x.2)

-- the value in an encapsulation is read
unfoldable pub encapsulated : {A : Type 0} → (Order → ℕ → List ℕ → Read A) → List ℕ → Result A Fault
encapsulated read octets = do
  o ← order_at octets
  x ← read o.0 o.1 o.2
  Ok x.0

-- The octets have the fault f where they should name a byte order: there is no octet, or it is no boolean.
abbrev pub StopsAtOrder : List ℕ → Fault → Type 0
StopsAtOrder octets f = ((octets ≡ []) × (f ≡ fault_at kind.Short 0)) ⊎ IsBadBoolean 0 octets f

-- The octets have the fault f as an encapsulation: their first octet has it, or what follows has it, as S says, at the
-- place 1 in the byte order that is named.
abbrev pub StopsEncapsulated : (Order → ℕ → List ℕ → Fault → Type 0) → List ℕ → Fault → Type 0
StopsEncapsulated S octets f = StopsAtOrder octets f ⊎ ((order : Order) × (rest : List ℕ) × (octets ≡ byte_order order ∷ rest) × S order 1 rest f)
