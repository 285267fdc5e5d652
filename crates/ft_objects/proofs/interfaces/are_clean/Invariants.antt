use Rattle.std.proofs.Common.{◌↔◌, drop, map}
use Rattle.ft_objects.specs.Filling.{AreClean}
use Rattle.ft_objects.proofs.interfaces.are_clean.Given as goal

-- no id before this has a NUL
abbrev pub invariant-loop-id : goal.invariant-loop-id
invariant-loop-id l = AreClean (map (λ id. id.items) l.ids) ↔ AreClean (map (λ id. id.items) (drop l.id-index l.ids))
