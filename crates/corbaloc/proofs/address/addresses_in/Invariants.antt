use denote.Shadow.{shadow}
use denote.Text.{Utf8}
use Rattle.std.proofs.Common.{length}
use Rattle.corbaloc.specs.Faults.{SpellsFront}
use Rattle.corbaloc.proofs.address.addresses_in.Given as goal

-- what is left is text, and follows the addresses so far
abbrev pub invariant-loop-first : goal.invariant-loop-first
invariant-loop-first l = shadow (Utf8 l.left) × SpellsFront l.text l.all.items l.left

abbrev pub decreases-loop-first : goal.decreases-loop-first
decreases-loop-first l = length l.left
