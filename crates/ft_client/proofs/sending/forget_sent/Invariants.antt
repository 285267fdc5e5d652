use Rattle.std.proofs.Common.{◌≡◌, ◌++◌, length, map, take, drop}
use Rattle.ft_client.specs.Keeping.{kept_by, unmarked}
use Rattle.ft_client.proofs.sending.forget_sent.Given as goal

abbrev pub invariant-loop-place : goal.invariant-loop-place
invariant-loop-place l = record {
  same : length l.pending ≡ length l.fn.pending;
  kept : take l.place (map kept_by l.pending) ++ unmarked (drop l.place (map kept_by l.pending)) ≡ unmarked (map kept_by l.fn.pending);
}
