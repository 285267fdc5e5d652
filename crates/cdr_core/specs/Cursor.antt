-- What a `Cursor` stands for, and what its calls return.
use Rattle.std.specs.Prelude.{◌≡◌, ℕ, List, Result, Ok, Err}
use Rattle.cdr_core.specs.declared.order.Order.{Order}
use Rattle.cdr_core.specs.declared.fault.Fault.{Fault}
use Rattle.cdr_core.specs.Reading.{Read}

-- the byte order, the place of the next octet as alignment counts it (CDR 9.3.1.1), and the octets from there on
pub record Position : Type 0 where
  pub order : Order
  pub place : ℕ
  pub rest : List ℕ

-- the cursor goes from old to new, at a place and the octets there
abbrev pub GoesTo : Position → Position → ℕ → List ℕ → Type 0
GoesTo old new place rest = (new.order ≡ old.order) × (new.place ≡ place) × (new.rest ≡ rest)

-- A call returns what reading gives, a value that view shows, and goes to the place after it; or its fault, and stays.
abbrev pub Gives : {X Y : Type 0} → (X → Y) → Result X Fault → (ℕ → List ℕ → Read Y) → Position → Position → Type 0
Gives view (Ok x) read old new = (read old.place old.rest ≡ Ok (view x, new.place, new.rest)) × (new.order ≡ old.order)
Gives view (Err f) read old new = (read old.place old.rest ≡ Err f) × (new ≡ old)
