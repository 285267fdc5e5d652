use Rattle.std.proofs.Common.{◌≡◌, length}
use Rattle.ft_log.specs.Kept.{unexpired}
use Rattle.ft_log.specs.Logged.{logged}
use Rattle.ft_log.specs.Store.{shown}
use Rattle.ft_log.proofs.store.Store.forget.Given as goal

-- what is left once all that is expired is forgotten
abbrev pub invariant-loop : goal.invariant-loop
invariant-loop l = record {
  same : unexpired l.now (logged (shown l.self)).entries ≡ unexpired l.now (logged (shown l.fn.self)).entries;
  others : logged (shown l.self) ≡ record (logged (shown l.fn.self)) { entries = (logged (shown l.self)).entries };
}

abbrev pub decreases-loop : goal.decreases-loop
decreases-loop l = length (logged (shown l.self)).entries
