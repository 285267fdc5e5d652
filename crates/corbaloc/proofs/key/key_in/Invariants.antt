use Rattle.std.proofs.Common.{length}
use Rattle.corbaloc.specs.Faults.{SpellsOctets}
use Rattle.corbaloc.proofs.key.key_in.Given as goal

-- what is left follows the octets so far
abbrev pub invariant-loop-left : goal.invariant-loop-left
invariant-loop-left l = SpellsOctets l.text l.key.items l.left

abbrev pub decreases-loop-left : goal.decreases-loop-left
decreases-loop-left l = length l.left
