use Rattle.std.proofs.Common.{◌≡◌, ◌&&◌, bytes_eq, nat_le, take}
use Rattle.std.specs.List.{count_by}
use Rattle.ft_log.specs.Maps.{key_in}
use Rattle.ft_log.proofs.shelf.Shelf.held_by.Given as goal

-- those before this place
abbrev pub invariant-loop-place : goal.invariant-loop-place
invariant-loop-place l = l.held ≡ count_by (λ p. nat_le l.now p.1.until && bytes_eq (key_in p.0).client_id l.client_id) (take l.place l.self.outcomes.entries)
