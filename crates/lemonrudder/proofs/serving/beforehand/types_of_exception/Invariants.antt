use Rattle.std.proofs.Common.{◌≡◌, drop, map}
use Rattle.ft_objects.specs.Interfaces.{raise_of}
use Rattle.lemonrudder.specs.Outcomes.{members_in}
use Rattle.lemonrudder.proofs.serving.beforehand.types_of_exception.Given as goal

-- the exceptions so far have another id
abbrev pub invariant-loop-declared : goal.invariant-loop-declared
invariant-loop-declared l = members_in l.id (map raise_of (drop l.declared-index l.raises)) ≡ members_in l.id (map raise_of l.raises)
