-- What the octets of a body are by types in order.
use Rattle.std.specs.Prelude.{ℕ, List, Option, Some, None}
use Rattle.std.proofs.Common.{Vec, Global}
use Rattle.cdr_core.specs.declared.order.Order.{Order}
use Rattle.cdr_core.specs.declared.values.Val.{Val}
use Rattle.cdr_core.specs.Form.{Forms}
use Rattle.cdr_core.specs.Value.{Values}
use Rattle.cdr_core.specs.View.{values_of}
use Rattle.cdr_core.specs.Spelling.{SpellsMembers}

-- values of the types, which all of the octets spell; none, where no values do
abbrev pub Has : Forms → Order → ℕ → List ℕ → Option (Vec Val Global) → Type 0
Has ts order at octets (Some vs) = SpellsMembers ts order (values_of vs.items) at octets
Has ts order at octets None = (vs : Values) → SpellsMembers ts order vs at octets → ⊥
