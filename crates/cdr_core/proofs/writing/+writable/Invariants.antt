use Rattle.std.proofs.Common.{◌↔◌, drop}
use Rattle.cdr_core.specs.View.{values_of}
use Rattle.cdr_core.specs.Writing.{AreWritable}
use Rattle.cdr_core.proofs.writing.+writable.Given as goal

abbrev pub invariant-are_writable-loop-value : goal.invariant-are_writable-loop-value
invariant-are_writable-loop-value l = AreWritable (values_of l.all) ↔ AreWritable (values_of (drop l.value-index l.all))
