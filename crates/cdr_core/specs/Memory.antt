-- Where reading may run out of memory. Memory is taken for what was read, and never by a count or a length alone
-- (own rule).
use Rattle.std.specs.Prelude.{◌≡◌, ℕ, zero, suc, ℤ, List, Ok, Err, ◌⊎◌}
use Rattle.std.specs.Ordering.{int_eq}
use Rattle.cdr_core.specs.declared.order.Order.{Order}
use Rattle.cdr_core.specs.Form as form
use Rattle.cdr_core.specs.Form.{Form, Forms, Cases}
use Rattle.cdr_core.specs.Reading.{Read, chosen_at, length_at, value_at}
use Rattle.cdr_core.specs.Spelling.{Chosen}
use Rattle.cdr_core.specs.Value.{Value, label}

-- a value was read, and ends at the place p
abbrev pub EndsAtPlace : {A : Type 0} → Read A → ℕ → Type 0
EndsAtPlace (Ok x) p = p ≡ x.1
EndsAtPlace (Err f) p = ⊥

-- a value was read, and P holds of it, of the place after it and of the octets there
abbrev pub AfterRead : {A : Type 0} → Read A → (A → ℕ → List ℕ → Type 0) → Type 0
AfterRead (Ok x) P = P x.0 x.1 x.2
AfterRead (Err f) P = ⊥

-- of n values, one after another, one was read that ends at p; or a part of the next that is stored
abbrev pub StoresEach : (ℕ → List ℕ → Read Value) → (ℕ → List ℕ → ℕ → Type 0) → ℕ → ℕ → List ℕ → ℕ → Type 0
StoresEach one S zero o octets p = ⊥
StoresEach one S (suc n) o octets p = S o octets p ⊎ AfterRead (one o octets) (λ v q rest. (p ≡ q) ⊎ StoresEach one S n q rest p)

-- Stores t order o octets p: where a value of type t is read, a part that is stored was read, and ends at the place p. Text
-- and octets are stored, and so are elements and members, each once it was read; a union
-- once its member was.
abbrev mutual
  pub Stores : Form → Order → ℕ → List ℕ → ℕ → Type 0
  Stores (form.string bound) order o octets p = EndsAtPlace (value_at (form.string bound) order o octets) p
  Stores (form.octets bound) order o octets p = EndsAtPlace (value_at (form.octets bound) order o octets) p
  Stores (form.sequence bound t) order o octets p = AfterRead (length_at order 0 bound o octets) (λ n q rest. StoresEach (value_at t order) (Stores t order) n q rest p)
  Stores (form.array n t) order o octets p = StoresEach (value_at t order) (Stores t order) n o octets p
  Stores (form.structure ts) order o octets p = StoresMembers ts order o octets p
  Stores (form.union d cs) order o octets p = Stores d order o octets p ⊎ AfterRead (value_at d order o octets) (λ v q rest. StoresChosen cs order (label v) q rest p ⊎ EndsAtPlace (chosen_at cs order (label v) q rest) p)
  Stores _ order o octets p = ⊥

  -- of a struct's members
  pub StoresMembers : Forms → Order → ℕ → List ℕ → ℕ → Type 0
  StoresMembers form.no_forms order o octets p = ⊥
  StoresMembers (form.form t ts) order o octets p = Stores t order o octets p ⊎ AfterRead (value_at t order o octets) (λ v q rest. (p ≡ q) ⊎ StoresMembers ts order q rest p)

  -- of the member that a union has at a label
  pub StoresChosen : Cases → Order → ℤ → ℕ → List ℕ → ℕ → Type 0
  StoresChosen form.otherwise_nothing order l o octets p = ⊥
  StoresChosen (form.otherwise t) order l o octets p = Stores t order o octets p
  StoresChosen (form.labelled k t cs) order l o octets p = Chosen (int_eq k l) (Stores t order o octets p) (StoresChosen cs order l o octets p)

-- reading may run out of memory: a part that is stored was read before
abbrev pub MayRunOut : Form → Order → ℕ → List ℕ → Type 0
MayRunOut t order o octets = (p : ℕ) × Stores t order o octets p

-- reading values, one of each type, one after another, may run out of memory
abbrev pub MayRunOutInMembers : Forms → Order → ℕ → List ℕ → Type 0
MayRunOutInMembers ts order o octets = (p : ℕ) × StoresMembers ts order o octets p
