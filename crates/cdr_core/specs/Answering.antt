-- What `read`, `read_list` and `pass_list` return.
use Rattle.std.specs.Prelude.{◌≡◌, ℕ, ◌≤◌, length, take, List, Result, Ok, Err, ⊤}
use Rattle.std.proofs.Common.{Vec, Global}
use Rattle.cdr_core.specs.declared.order.Order.{Order}
use Rattle.cdr_core.specs.declared.values.Val.{Val}
use Rattle.cdr_core.specs.declared.fault.CdrError.{CdrError}
use Rattle.cdr_core.specs.declared.fault.Fault.{Fault}
use Rattle.cdr_core.specs.declared.fault.CdrError.TheVariants as errors
use Rattle.cdr_core.specs.Form.{Form, Forms}
use Rattle.cdr_core.specs.Value.{Value, Values}
use Rattle.cdr_core.specs.View.{value_of, values_of}
use Rattle.cdr_core.specs.Spelling.{Spells, SpellsMembers}
use Rattle.cdr_core.specs.Stopping.{Stops, StopsInMembers}
use Rattle.cdr_core.specs.Memory.{MayRunOut, MayRunOutInMembers}

-- A value, and how many octets from the front on spell it; or the first fault; or an allocation failed, where that may
-- happen.
abbrev pub Returns : {A : Type 0} → (A → ℕ → List ℕ → Type 0) → (ℕ → List ℕ → Fault → Type 0) → (ℕ → List ℕ → Type 0) → ℕ → List ℕ → Result (A × ℕ) CdrError → Type 0
Returns spells stops may o octets (Ok x) = (x.1 ≤ length octets) × spells x.0 o (take x.1 octets)
Returns spells stops may o octets (Err (errors.Bad f)) = stops o octets f
Returns spells stops may o octets (Err errors.Memory) = may o octets

-- a value that view shows as v, and n octets, unless an allocation failed
abbrev pub ReturnsThat : {A V : Type 0} → (A → V) → V → ℕ → Result (A × ℕ) CdrError → Type 0
ReturnsThat view v n (Ok x) = (view x.0 ≡ v) × (x.1 ≡ n)
ReturnsThat view v n (Err (errors.Bad f)) = ⊥
ReturnsThat view v n (Err errors.Memory) = ⊤

-- what `read` returns
abbrev pub Answers : Form → Order → ℕ → List ℕ → Result (Val × ℕ) CdrError → Type 0
Answers t order = Returns (λ x. Spells t order (value_of x)) (Stops t order) (MayRunOut t order)

-- it is that value and that length, unless an allocation failed
abbrev pub Reads : Value → ℕ → Result (Val × ℕ) CdrError → Type 0
Reads = ReturnsThat value_of

-- what `read_list` returns
abbrev pub ListAnswers : Forms → Order → ℕ → List ℕ → Result (Vec Val Global × ℕ) CdrError → Type 0
ListAnswers ts order = Returns (λ v. SpellsMembers ts order (values_of v.items)) (StopsInMembers ts order) (MayRunOutInMembers ts order)

-- it is those values and that length, unless an allocation failed
abbrev pub ListReads : Values → ℕ → Result (Vec Val Global × ℕ) CdrError → Type 0
ListReads = ReturnsThat (λ v. values_of v.items)

-- what `pass_list` returns: how many octets from the front on spell values; or the first fault
abbrev pub ListPasses : Forms → Order → ℕ → List ℕ → Result ℕ Fault → Type 0
ListPasses ts order o octets (Ok n) = (n ≤ length octets) × ((vs : Values) × SpellsMembers ts order vs o (take n octets))
ListPasses ts order o octets (Err f) = StopsInMembers ts order o octets f
