use Rattle.std.proofs.Common.{◌≡◌, map, take}
use Rattle.cdr_core.specs.Parts.{longlong_value}
use Rattle.cdr_core.specs.View.{value_of}
use Rattle.uses.proofs.ledger.entry_values.Given as goal

-- the entries passed so far are values
abbrev pub invariant-loop-cents : goal.invariant-loop-cents
invariant-loop-cents l = map value_of l.values.items ≡ map longlong_value (take l.cents-index l.entries)
