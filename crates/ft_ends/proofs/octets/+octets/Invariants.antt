use Rattle.std.proofs.Common.{drop}
use Rattle.cdr_core.specs.Octets.{HoldAll}
use Rattle.cdr_core.specs.View.{values_of}
use Rattle.ft_ends.proofs.octets.+octets.Given as goal

-- what is left to go over decides
abbrev pub invariant-hold_octets-loop-value : goal.invariant-hold_octets-loop-value
invariant-hold_octets-loop-value l = HoldAll (values_of (drop l.value-index l.all)) → HoldAll (values_of l.all)
