-- Arguments by their types.
use Rattle.std.specs.Prelude.{ℕ, List}
use Rattle.cdr_core.specs.declared.order.Order.{Order}
use Rattle.cdr_core.specs.Form.{Forms}
use Rattle.cdr_core.specs.Spelling.{SpellsMembers}
use Rattle.cdr_core.specs.Value.{Values}

-- values of these types, one of each, that octets spell
abbrev pub AreSpelled : Forms → Values → Type 0
AreSpelled types arguments = (order : Order) × (at : ℕ) × (octets : List ℕ) × SpellsMembers types order arguments at octets
