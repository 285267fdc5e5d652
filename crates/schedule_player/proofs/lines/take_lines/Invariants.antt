use Rattle.std.specs.List.{AllByRecursion}
use Rattle.ft_ends.specs.Playing.{IsCallable}
use Rattle.schedule_player.proofs.lines.take_lines.Given as goal

-- each call of the schedule that is being read can be made
abbrev pub invariant-loop-line : goal.invariant-loop-line
invariant-loop-line g l = AllByRecursion IsCallable l.reading.steps.items
