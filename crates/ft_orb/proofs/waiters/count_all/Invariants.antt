use Rattle.std.proofs.Common.{◌≡◌, min, map}
use Rattle.std.specs.List.{sum_by}
use Rattle.std.specs.Map.Iter.{deref}
use Rattle.ft_orb.specs.Counts.{on_connection}
use Rattle.ft_orb.specs.declared.parked.Parked.{Parked}
use Rattle.ft_orb.proofs.waiters.count_all.Given as goal

abbrev pub invariant-loop-parked : goal.invariant-loop-parked
invariant-loop-parked l = l.all ≡ min (sum_by (λ (p : Parked). on_connection l.connection p.waiters.items) (map deref l.yielded)) 18446744073709551615
