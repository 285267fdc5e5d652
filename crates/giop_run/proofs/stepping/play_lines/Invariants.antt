use Rattle.std.proofs.Common.{◌≡◌, None}
use Rattle.ft_orb.specs.Engines.{waits_in}
use Rattle.giop_run.proofs.stepping.play_lines.Given as goal

-- no request waits between two lines
abbrev pub invariant-loop-line : goal.invariant-loop-line
invariant-loop-line g l = waits_in l.host.engine ≡ None
