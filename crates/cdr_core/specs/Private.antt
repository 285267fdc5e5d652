-- Words for contracts of private functions, in this crate and in those above it. No public contract, definition or law
-- uses them: a reader who asks what is promised can leave this file out.
use Rattle.std.specs.Prelude.{◌≡◌, ◌≤◌, ◌+◌, ◌-◌, ℕ, ℤ, List, ◌++◌, length, Result, Ok, Err, ⊤, ◌⊎◌}
use Rattle.cdr_core.specs.declared.fault.CdrError.{CdrError}
use Rattle.cdr_core.specs.declared.fault.Fault.{Fault}
use Rattle.cdr_core.specs.declared.fault.CdrError.TheVariants as errors
use Rattle.cdr_core.specs.declared.order.Order.{Order}
use Rattle.cdr_core.specs.declared.basic.Basic.{Basic}
use Rattle.cdr_core.specs.declared.basic.Basic.TheVariants.{Boolean, Char, Octet, Short, UShort, Long, ULong, LongLong, ULongLong, Enum}
use Rattle.cdr_core.specs.declared.values.Val.{Val}
use Rattle.cdr_core.specs.Cursor.{Position}
use Rattle.cdr_core.specs.Fitting.{AreCases, FitsChosen}
use Rattle.cdr_core.specs.Form as form
use Rattle.cdr_core.specs.Form.{Form}
use Rattle.cdr_core.specs.Memory.{EndsAtPlace, Stores, StoresChosen, StoresEach}
use Rattle.cdr_core.specs.Reading.{◌>>=◌, Read, chosen_at, each_at, value_at}
use Rattle.cdr_core.specs.Value as value
use Rattle.cdr_core.specs.Value.{Value, Values, label}
use Rattle.cdr_core.specs.View.{values_of}

-- an output keeps what it held, and nothing is known of what was appended before an allocation failed
pub record Keeps (old new : List ℕ) : Type 0 where
  pub more : List ℕ
  pub parts : new ≡ old ++ more

-- what is read is passed over: its value is dropped
abbrev pub passing : {A : Type 0} → Read A → Read Unit
passing read = read >>= λ x. Ok (tt, x.1, x.2)

-- an error is the fault of reading, or an allocation failed
abbrev pub Fails : {Y : Type 0} → CdrError → Read Y → Type 0
Fails (errors.Bad f) read = read ≡ Err f
Fails errors.Memory read = ⊤

-- A holds if the error is that an allocation failed
abbrev pub IfMemory : CdrError → Type 0 → Type 0
IfMemory (errors.Bad f) A = ⊤
IfMemory errors.Memory A = A

-- A call returns what reading gives, and goes to the place after it; or its fault; or an allocation failed at a place where
-- that may happen. The cursor isn't used again after an error.
abbrev pub GivesUnlessMemory : {X Y : Type 0} → (X → Y) → Result X CdrError → (ℕ → List ℕ → Read Y) → (ℕ → List ℕ → ℕ → Type 0) → Position → Position → Type 0
GivesUnlessMemory view (Ok x) read may old new = (read old.place old.rest ≡ Ok (view x, new.place, new.rest)) × (new.order ≡ old.order)
GivesUnlessMemory view (Err e) read may old new = Fails e (read old.place old.rest) × IfMemory e (may old.place old.rest new.place)

-- what f makes of the value that is read
abbrev pub seen : {A B : Type 0} → (A → B) → Read A → Read B
seen f read = read >>= λ x. Ok (f x.0, x.1, x.2)

-- A call returns what f makes of the value that reading gives, and goes to the place after it; or its fault. The cursor
-- isn't used again after an error.
abbrev pub GivesOf : {X Y : Type 0} → (Y → X) → Result X Fault → (ℕ → List ℕ → Read Y) → Position → Position → Type 0
GivesOf f (Ok x) read old new = (seen f (read old.place old.rest) ≡ Ok (x, new.place, new.rest)) × (new.order ≡ old.order)
GivesOf f (Err e) read old new = read old.place old.rest ≡ Err e

-- it passes over the value
abbrev pub Passes : {Y : Type 0} → Result Unit Fault → (ℕ → List ℕ → Read Y) → Position → Position → Type 0
Passes = GivesOf (λ v. tt)

-- a boolean, a number or an enumeration
abbrev pub IsBasic : Form → Type 0
IsBasic form.boolean = ⊤
IsBasic (form.number kind) = ⊤
IsBasic (form.enumeration n) = ⊤
IsBasic _ = ⊥

-- numbers of n octets
abbrev pub IsNumberOf : Form → ℕ → Type 0
IsNumberOf (form.number kind) n = n ≡ form.size kind
IsNumberOf _ n = ⊥

-- values, and others after them
abbrev pub joined : Values → Values → Values
joined value.no_values ws = ws
joined (value.value v vs) ws = value.value v (joined vs ws)

-- what was read before, in front of what is read
abbrev pub with_front : Values → Read Values → Read Values
with_front vs (Err f) = Err f
with_front vs (Ok x) = Ok (joined vs x.0, x.1, x.2)

-- the type that a `Basic` stands for
abbrev pub basic_form : Basic → Form
basic_form Boolean = form.boolean
basic_form Char = form.number form.char
basic_form Octet = form.number form.octet
basic_form Short = form.number form.short
basic_form UShort = form.number form.ushort
basic_form Long = form.number form.long
basic_form ULong = form.number form.ulong
basic_form LongLong = form.number form.longlong
basic_form ULongLong = form.number form.ulonglong
basic_form (Enum names) = form.enumeration names

-- how many octets its values have
abbrev pub basic_size : Basic → ℕ
basic_size Boolean = 1
basic_size Char = 1
basic_size Octet = 1
basic_size Short = 2
basic_size UShort = 2
basic_size Long = 4
basic_size ULong = 4
basic_size LongLong = 8
basic_size ULongLong = 8
basic_size (Enum names) = 4

-- n values of a type are left to be read from place o on, after others. Some are read, and put after those: what is left of
-- them, from place p on, gives the same whole, and stores no more.
pub record ReadsOn (t : Form) (order : Order) (n : ℕ) (others : List Val) (o : ℕ) (octets : List ℕ) (all : List Val) (p : ℕ) (rest : List ℕ) : Type 0 where
  pub more : length others ≤ length all
  pub within : length all ≤ length others + n
  pub whole : with_front (values_of all) (each_at (value_at t order) (n - (length all - length others)) p rest) ≡ with_front (values_of others) (each_at (value_at t order) n o octets)
  pub stores : (q : ℕ) → StoresEach (value_at t order) (Stores t order) (n - (length all - length others)) p rest q → StoresEach (value_at t order) (Stores t order) n o octets q

-- the cases of a union are valid; it holds of all other types
abbrev pub HasCases : Form → Type 0
HasCases (form.union d cs) = AreCases d cs
HasCases _ = ⊤

-- the member that a union holds at a label is one of its case's type
abbrev pub HasChosen : Form → ℤ → Values → Type 0
HasChosen (form.union d cs) l ms = FitsChosen cs l ms
HasChosen _ l ms = ⊥

-- the member of a union at a label is read
abbrev pub union_at : Form → Order → ℤ → ℕ → List ℕ → Read Values
union_at (form.union d cs) order l o octets = chosen_at cs order l o octets
union_at _ order l o octets = Ok (value.no_values, o, octets)

-- the member that a discriminator selects is read, and joined with it
abbrev pub united_at : Form → Order → Value → ℕ → List ℕ → Read Value
united_at t order d o octets = do
  m ← union_at t order (label d) o octets
  Ok (value.union d m.0, m.1, m.2)

-- a part of that member that is stored was read, or the member as a whole
abbrev pub StoresUnion : Form → Order → ℤ → ℕ → List ℕ → ℕ → Type 0
StoresUnion (form.union d cs) order l o octets p = StoresChosen cs order l o octets p ⊎ EndsAtPlace (chosen_at cs order l o octets) p
StoresUnion _ order l o octets p = p ≡ o
