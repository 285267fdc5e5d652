use Rattle.std.proofs.Common.{◌≡◌, None}
use Rattle.ft_orb.specs.Engines.{waits_in}
use Rattle.echo_server.proofs.serve.serve.Given as goal

-- no request waits between two connections
abbrev pub invariant-loop-i : goal.invariant-loop-i
invariant-loop-i l = waits_in l.engine ≡ None
