use Rattle.std.proofs.Common.{◌↔◌, drop, map}
use Rattle.ft_objects.specs.Interfaces.{raise_of}
use Rattle.ft_objects.specs.Sound.{AreSound}
use Rattle.ft_objects.proofs.typed.are_sound.Given as goal

-- those before this are sound
abbrev pub invariant-loop-id : goal.invariant-loop-id
invariant-loop-id l = AreSound (map raise_of l.raises) ↔ AreSound (map raise_of (drop l.id-index l.raises))
