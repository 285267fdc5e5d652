use Rattle.std.proofs.Common.{◌≡◌, ◌+◌, ◌≤◌, ℕ, List, length, None}
use Rattle.ft_log.specs.Keys.{RequestKey, held_of}
use Rattle.ft_log.specs.Kept.{kept_for, keys_of}
use Rattle.ft_log.specs.Logged.{logged}
use Rattle.ft_log.specs.Store.{live_from, shown}
use Rattle.ft_log.proofs.store.Store.forget_some.Given as goal

-- what is live stays, and one is dropped each time
abbrev pub invariant-loop-dropped : goal.invariant-loop-dropped
invariant-loop-dropped l = record {
  same : live_from l.now (logged (shown l.self)) ≡ live_from l.now (logged (shown l.fn.self));
  one : length (logged (shown l.self)).entries + l.dropped ≡ length (logged (shown l.fn.self)).entries;
  held : (client : List ℕ) → held_of client (keys_of (logged (shown l.self)).entries) ≤ held_of client (keys_of (logged (shown l.fn.self)).entries);
  absent : (key : RequestKey) → kept_for key (logged (shown l.fn.self)).entries ≡ None → kept_for key (logged (shown l.self)).entries ≡ None;
}
