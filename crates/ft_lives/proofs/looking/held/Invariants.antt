use Rattle.std.proofs.Common.{◌≡◌, drop}
use Rattle.ft_log.specs.Kept.{kept_for, unexpired}
use Rattle.ft_log.specs.View.{key_of}
use Rattle.ft_lives.specs.Memory.{rows_in}
use Rattle.ft_lives.proofs.looking.held.Given as goal

-- no row before this one is held for the key
abbrev pub invariant-loop-row : goal.invariant-loop-row
invariant-loop-row l = kept_for (key_of l.key) (unexpired l.mark (rows_in (drop l.row-index l.rows))) ≡ kept_for (key_of l.key) (unexpired l.mark (rows_in l.rows))
