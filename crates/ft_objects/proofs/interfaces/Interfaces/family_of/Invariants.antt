use Rattle.std.proofs.Common.{map, option_copied, Vec, Global, ℕ}
use Rattle.std.specs.Map.Iter.{deref}
use Rattle.ft_objects.proofs.Fronts.{IsLongest}
use Rattle.ft_objects.proofs.interfaces.Interfaces.family_of.Given as goal

-- the longest front of the key among those before
abbrev pub invariant-loop-own : goal.invariant-loop-own
invariant-loop-own l = IsLongest l.key (map (λ (k : Vec ℕ Global). k.items) (map deref l.yielded)) (option_copied l.longest)
