use Rattle.std.proofs.Common.{◌≡◌, take}
use Rattle.std.specs.List.{count_by}
use Rattle.ft_log.specs.Shelf.{is_stale}
use Rattle.ft_log.proofs.shelf.Shelf.stale_of.Given as goal

-- none of those before this place
abbrev pub invariant-loop-place : goal.invariant-loop-place
invariant-loop-place l = count_by (is_stale l.now l.client_id) (take l.place l.self.outcomes.entries) ≡ 0
