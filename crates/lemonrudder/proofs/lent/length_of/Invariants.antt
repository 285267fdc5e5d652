use Rattle.std.proofs.Common.{◌≡◌, ◌≤◌, ◌+◌, length, min}
use Rattle.giop_core.specs.Items.{contexts_left}
use Rattle.lemonrudder.proofs.lent.length_of.Given as goal

-- what is counted and what is left are as many as there were
abbrev pub invariant-loop : goal.invariant-loop
invariant-loop l = (l.count ≤ 4294967295) × (min (l.count + length (contexts_left l.iterator')) 4294967295 ≡ min (length (contexts_left l.fn.contexts)) 4294967295)
