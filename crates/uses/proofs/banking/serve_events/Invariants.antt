use Rattle.std.proofs.Common.{◌≡◌, None}
use Rattle.ft_orb.specs.Engines.{waits_in}
use Rattle.uses.proofs.banking.serve_events.Given as goal

-- no request waits between two events
abbrev pub invariant-loop-event : goal.invariant-loop-event
invariant-loop-event g l = waits_in l.engine ≡ None
