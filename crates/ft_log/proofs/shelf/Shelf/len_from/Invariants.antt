use Rattle.std.proofs.Common.{◌≡◌, nat_le, take}
use Rattle.std.specs.List.{count_by}
use Rattle.ft_log.proofs.shelf.Shelf.len_from.Given as goal

-- those before this place
abbrev pub invariant-loop-place : goal.invariant-loop-place
invariant-loop-place l = l.live ≡ count_by (λ p. nat_le l.now p.1.until) (take l.place l.self.outcomes.entries)
