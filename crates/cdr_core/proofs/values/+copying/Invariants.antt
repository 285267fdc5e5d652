use Rattle.std.proofs.Common.{◌≡◌, take}
use Rattle.cdr_core.specs.View.{values_of}
use Rattle.cdr_core.proofs.values.+copying.Given as goal

abbrev pub invariant-copied_all-loop-value : goal.invariant-copied_all-loop-value
invariant-copied_all-loop-value l = values_of l.copies.items ≡ values_of (take l.value-index l.all)
