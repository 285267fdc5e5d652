use Rattle.std.proofs.Common.{◌≡◌, ◌++◌, map}
use Rattle.giop_core.specs.Items.{contexts_left}
use Rattle.lemonrudder.specs.Lends.{copied_item}
use Rattle.lemonrudder.proofs.lent.copies_of.Given as goal

-- what is copied and what is left are all
abbrev pub invariant-loop-id : goal.invariant-loop-id
invariant-loop-id l = map copied_item l.copies.items ++ contexts_left l.id-iterator ≡ contexts_left l.fn.contexts
