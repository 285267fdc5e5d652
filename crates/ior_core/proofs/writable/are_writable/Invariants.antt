use Rattle.std.proofs.Common.{◌↔◌, drop}
use Rattle.cdr_core.specs.Writing.{AreWritable}
use Rattle.ior_core.specs.View.{tagged_values}
use Rattle.ior_core.proofs.writable.are_writable.Given as goal

abbrev pub invariant-loop-one : goal.invariant-loop-one
invariant-loop-one l = AreWritable (tagged_values l.all) ↔ AreWritable (tagged_values (drop l.one-index l.all))
