use Rattle.std.proofs.Common.{◌≡◌, ◌≤◌, ℕ}
use Rattle.std.specs.List.{sum_by}
use Rattle.ft_log.specs.Queue.{fits, kept_dues, place_at}
use Rattle.ft_log.specs.declared.due.Due.{Due}
use Rattle.ft_log.proofs.queue.Queue.drop_withdrawn.Given as goal

-- what is kept is as it was
abbrev pub invariant-loop : goal.invariant-loop
invariant-loop l = record {
  sums : (f : Due → ℕ) → sum_by f (kept_dues l.self) ≡ sum_by f (kept_dues l.fn.self);
  places : (slot : ℕ) → place_at l.self slot ≡ place_at l.fn.self slot;
  room : fits l.fn.self ≤ fits l.self;
}

abbrev pub decreases-loop : goal.decreases-loop
decreases-loop l = l.self.withdrawn
