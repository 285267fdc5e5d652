-- Values in which each octet is one.
use Rattle.std.specs.Prelude.{⊤}
use Rattle.cdr_core.specs.Numbers.{AreOctets}
use Rattle.cdr_core.specs.Value as value
use Rattle.cdr_core.specs.Value.{Value, Values}

-- the texts and the octets in a value are octets
abbrev mutual
  pub HoldsOctets : Value → Type 0
  HoldsOctets (value.string text) = AreOctets text
  HoldsOctets (value.octets all) = AreOctets all
  HoldsOctets (value.sequence vs) = HoldAll vs
  HoldsOctets (value.array vs) = HoldAll vs
  HoldsOctets (value.structure vs) = HoldAll vs
  HoldsOctets (value.union d ms) = HoldsOctets d × HoldAll ms
  HoldsOctets _ = ⊤

  -- those in each of the values
  pub HoldAll : Values → Type 0
  HoldAll value.no_values = ⊤
  HoldAll (value.value v vs) = HoldsOctets v × HoldAll vs
