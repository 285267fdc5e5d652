use Rattle.std.proofs.Common.{◌≡◌, map, take}
use Rattle.ior_core.specs.Keys.{tag_and_octets_of}
use Rattle.corbaloc.specs.Reference.{profile}
use Rattle.corbaloc.proofs.reference.reference_of.Given as goal

-- the profiles so far are those of the addresses so far
abbrev pub invariant-loop-address : goal.invariant-loop-address
invariant-loop-address l = map tag_and_octets_of l.profiles.items ≡ map (profile l.location.key.items) (take l.address-index l.location.addresses.items)
