use Rattle.std.proofs.Common.{drop, map}
use Rattle.std.specs.List.{AllByRecursion}
use Rattle.ft_ends.specs.Laws.{IsFineStep}
use Rattle.ft_ends.specs.Playing.{step_as}
use Rattle.ft_ends.proofs.octets.are_fine.Given as goal

-- what is left to go over decides
abbrev pub invariant-loop-step : goal.invariant-loop-step
invariant-loop-step l = AllByRecursion IsFineStep (map step_as (drop l.step-index l.steps)) → AllByRecursion IsFineStep (map step_as l.steps)
