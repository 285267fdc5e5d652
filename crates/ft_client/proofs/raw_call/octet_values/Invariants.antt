use Rattle.std.proofs.Common.{◌≡◌, map, take}
use Rattle.cdr_core.specs.Parts.{octet_value}
use Rattle.cdr_core.specs.View.{value_of}
use Rattle.ft_client.proofs.raw_call.octet_values.Given as goal

-- the octets passed so far are values
abbrev pub invariant-loop-octet : goal.invariant-loop-octet
invariant-loop-octet l = map value_of l.values.items ≡ map octet_value (take l.octet-index l.octets)
