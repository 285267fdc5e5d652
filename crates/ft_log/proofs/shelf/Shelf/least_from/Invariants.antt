use Rattle.std.proofs.Common.{take}
use Rattle.ft_log.specs.Shelf.{IsLeast}
use Rattle.ft_log.proofs.shelf.Shelf.least_from.Given as goal

-- of those before this place
abbrev pub invariant-loop-place : goal.invariant-loop-place
invariant-loop-place l = IsLeast l.now l.least (take l.place l.self.outcomes.entries)
