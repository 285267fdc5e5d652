use Rattle.std.proofs.Common.{◌↔◌, drop, map}
use Rattle.std.specs.List.{AllByRecursion}
use Rattle.cdr_core.specs.Fitting.{AreValid}
use Rattle.cdr_core.specs.View.{values_of}
use Rattle.ft_objects.specs.Interfaces.{IsRaised, raise_of}
use Rattle.ft_orb.proofs.outcomes.is_raised.Given as goal

-- it is none of those before this
abbrev pub invariant-loop-own : goal.invariant-loop-own
invariant-loop-own l = record {
  valid : AllByRecursion (λ r. AreValid r.1) (map raise_of (drop l.own-index l.raises));
  left : IsRaised (map raise_of l.raises) l.id (values_of l.members) ↔ IsRaised (map raise_of (drop l.own-index l.raises)) l.id (values_of l.members);
}
