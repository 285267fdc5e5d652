use Rattle.std.proofs.Common.{drop}
use Rattle.ior_core.specs.Private.{AreOfCode}
use Rattle.ior_core.proofs.laws.are_of_code.Given as goal

abbrev pub invariant-loop-one : goal.invariant-loop-one
invariant-loop-one l = AreOfCode (drop l.one-index l.all) → AreOfCode l.all
