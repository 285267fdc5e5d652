-- The laws: statements about the definitions alone, each of which a function of `laws` ensures.
use Rattle.std.specs.Prelude.{◌≡◌, ◌↔◌, ℕ, ◌+◌, ◌%◌, ◌<◌, ◌≤◌, List, ◌∷◌, ◌++◌, length, Ok, Err, ◌⊎◌}
use Rattle.cdr_core.specs.declared.fault.Fault.{Fault}
use Rattle.cdr_core.specs.declared.order.Order.{Order}
use Rattle.cdr_core.specs.Encapsulation.{byte_order, encapsulated, order_at, StopsAtOrder, StopsEncapsulated}
use Rattle.cdr_core.specs.Form.{Form, Forms}
use Rattle.cdr_core.specs.Value.{Value, Values}
use Rattle.cdr_core.specs.Numbers.{padding, AreOctets}
use Rattle.cdr_core.specs.Octets.{HoldsOctets}
use Rattle.cdr_core.specs.Parts.{most, ulong, ulong_value}
use Rattle.cdr_core.specs.Reading.{◌>>=◌, Read, length_at, members_at, value_at}
use Rattle.cdr_core.specs.Spelling.{Spells, Takes}
use Rattle.cdr_core.specs.Stopping.{Stops}
use Rattle.cdr_core.specs.Fitting.{Fits, FitsMembers, IsValid}
use Rattle.cdr_core.specs.Writing.{octets_of, octets_of_all, IsWritable}

-- CDR 9.3.1.1: padding is the fewest octets that lead to a place divisible by n, and fewer than n.
abbrev pub PaddingIsLeast : Type 0
PaddingIsLeast = (o n : ℕ) → 0 < n → (padding o n < n) × ((o + padding o n) % n ≡ 0) × ((k : ℕ) → (o + k) % n ≡ 0 → padding o n ≤ k)

-- What is read is spelled.
abbrev pub ReadIsSpelled : Type 0
ReadIsSpelled = (t : Form) (order : Order) (o : ℕ) (octets : List ℕ) (v : Value) (p : ℕ) (rest : List ℕ) → value_at t order o octets ≡ Ok (v, p, rest) → Takes (Spells t order v) o octets p rest

-- What is spelled is read, whatever follows.
abbrev pub SpelledIsRead : Type 0
SpelledIsRead = (t : Form) (order : Order) (v : Value) (o : ℕ) (front rest : List ℕ) → Spells t order v o front → value_at t order o (front ++ rest) ≡ Ok (v, o + length front, rest)

-- At most one front of any octets is a spelling, and of one value.
abbrev pub OneFront : Type 0
OneFront = (t : Form) (order : Order) (o : ℕ) (front rest : List ℕ) (v : Value) (other more : List ℕ) (w : Value) → front ++ rest ≡ other ++ more → Spells t order v o front → Spells t order w o other → (v ≡ w) × (front ≡ other)

-- A front of any octets is a spelling, or they have a fault ..
abbrev pub EitherWay : Type 0
EitherWay = (t : Form) (order : Order) (o : ℕ) (octets : List ℕ) → ((v : Value) × (front : List ℕ) × (rest : List ℕ) × (octets ≡ front ++ rest) × Spells t order v o front) ⊎ ((f : Fault) × Stops t order o octets f)

-- .. not both ..
abbrev pub NotBoth : Type 0
NotBoth = (t : Form) (order : Order) (o : ℕ) (front rest : List ℕ) (v : Value) (f : Fault) → Spells t order v o front → Stops t order o (front ++ rest) f → ⊥

-- .. and have one fault.
abbrev pub OneFault : Type 0
OneFault = (t : Form) (order : Order) (o : ℕ) (octets : List ℕ) (f g : Fault) → Stops t order o octets f → Stops t order o octets g → f ≡ g

-- The fault of reading is the first fault of the octets ..
abbrev pub FaultsStop : Type 0
FaultsStop = (t : Form) (order : Order) (o : ℕ) (octets : List ℕ) (f : Fault) → value_at t order o octets ≡ Err f → Stops t order o octets f

-- .. and the first fault of the octets is that of reading.
abbrev pub StopsAreFaults : Type 0
StopsAreFaults = (t : Form) (order : Order) (o : ℕ) (octets : List ℕ) (f : Fault) → Stops t order o octets f → value_at t order o octets ≡ Err f

-- What is written is a spelling by every type that the value fits.
abbrev pub WrittenIsSpelled : Type 0
WrittenIsSpelled = (t : Form) (order : Order) (v : Value) → Fits t v → (o : ℕ) → Spells t order v o (octets_of order v o)

-- A value that fits a type can be written.
abbrev pub FittingIsWritable : Type 0
FittingIsWritable = (t : Form) (v : Value) → Fits t v → IsWritable v

-- What octets spell by a valid type fits it.
abbrev pub SpelledFits : Type 0
SpelledFits = (t : Form) (order : Order) (v : Value) (o : ℕ) (octets : List ℕ) → IsValid t → AreOctets octets → Spells t order v o octets → Fits t v

-- A value that was read by a valid type fits it, and can be written.
abbrev pub ReadFits : Type 0
ReadFits = (t : Form) (order : Order) (o : ℕ) (octets : List ℕ) (v : Value) (p : ℕ) (rest : List ℕ) → IsValid t → AreOctets octets → value_at t order o octets ≡ Ok (v, p, rest) → Fits t v × IsWritable v

-- A value that is written at a place is read again there, in the same order, whatever follows.
abbrev pub IsReadAgain : Form → Value → Type 0
IsReadAgain t v = (order : Order) (o : ℕ) (rest : List ℕ) → value_at t order o (octets_of order v o ++ rest) ≡ Ok (v, o + length (octets_of order v o), rest)

-- What is written for a value is read again by every type that the value fits ..
abbrev pub WrittenIsRead : Type 0
WrittenIsRead = (t : Form) (v : Value) → Fits t v → IsReadAgain t v

-- .. and so are values, one after another, by their types.
abbrev pub WrittenValuesAreRead : Type 0
WrittenValuesAreRead = (ts : Forms) (vs : Values) → FitsMembers ts vs → (order : Order) (o : ℕ) (rest : List ℕ) → members_at ts order o (octets_of_all order vs o ++ rest) ≡ Ok (vs, o + length (octets_of_all order vs o), rest)

-- What is written for a value is octets, where each octet in it is one.
abbrev pub WrittenIsOctets : Type 0
WrittenIsOctets = (order : Order) (v : Value) → HoldsOctets v → (o : ℕ) → AreOctets (octets_of order v o)

-- A length without a bound is an unsigned long.
abbrev pub LengthIsUnsignedLong : Type 0
LengthIsUnsignedLong = (order : Order) (o : ℕ) (octets : List ℕ) → AreOctets octets → ◌≡◌ {A = Read Value} (value_at ulong order o octets) (length_at order 0 most o octets >>= λ n. Ok (ulong_value n.0, n.1, n.2))

-- CDR 9.3.3: the first octet of an encapsulation gives the byte order, and the place 1 follows it ..
abbrev pub ByteOrderIsRead : Type 0
ByteOrderIsRead = (order : Order) (rest : List ℕ) → order_at (byte_order order ∷ rest) ≡ Ok (order, 1, rest)

-- .. and reading it fails exactly where there is no octet, or it is no boolean.
abbrev pub ByteOrderStops : Type 0
ByteOrderStops = (octets : List ℕ) (f : Fault) → (order_at octets ≡ Err f) ↔ StopsAtOrder octets f

-- Reading a value in an encapsulation fails exactly where the octets have that fault as one.
abbrev pub EncapsulatedStops : Type 0
EncapsulatedStops = (t : Form) (octets : List ℕ) (f : Fault) → (encapsulated (value_at t) octets ≡ Err f) ↔ StopsEncapsulated (Stops t) octets f
