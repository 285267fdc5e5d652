use Rattle.std.proofs.Common.{◌≡◌, None}
use Rattle.ft_orb.specs.Engines.{waits_in}
use Rattle.uses.proofs.later.serve_turns.Given as goal

-- no request waits between two turns
abbrev pub invariant-loop-turn : goal.invariant-loop-turn
invariant-loop-turn l = waits_in l.engine ≡ None
