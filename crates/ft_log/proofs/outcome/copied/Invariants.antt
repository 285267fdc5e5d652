use Rattle.std.proofs.Common.{◌≡◌, map, take}
use Rattle.cdr_core.specs.View.{value_of}
use Rattle.ft_log.proofs.outcome.copied.Given as goal

abbrev pub invariant-loop-value : goal.invariant-loop-value
invariant-loop-value l = map value_of l.copies.items ≡ map value_of (take l.value-index l.all)
