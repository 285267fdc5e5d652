use Rattle.std.proofs.Common.{take}
use Rattle.lemonrudder.proofs.Identifying.{HaveRead}
use Rattle.lemonrudder.proofs.cataloguing.ids_of.Given as goal

-- so many octets were read
abbrev pub invariant-loop-octet : goal.invariant-loop-octet
invariant-loop-octet l = HaveRead (take l.octet-index l.octets) l.ids.items l.id.items
