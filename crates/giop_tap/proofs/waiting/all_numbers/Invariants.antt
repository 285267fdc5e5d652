use Rattle.std.proofs.Common.{◌≡◌, ◌++◌, vec_items}
use Rattle.std.specs.List.{flat_map}
use Rattle.giop_tap.specs.Waiting.{gathered}
use Rattle.giop_tap.proofs.waiting.all_numbers.Given as goal

abbrev pub invariant-loop-numbers : goal.invariant-loop-numbers
invariant-loop-numbers l = vec_items l.all ++ flat_map (λ v. v.items) l.numbers-iterator ≡ gathered l.waiting.entries
