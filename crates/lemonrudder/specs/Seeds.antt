-- The random numbers of a hasher, which the caller gives.
use Rattle.std.specs.Prelude.{ℕ, List, ◌++◌}
use Rattle.std.specs.Int.{to_le_bytes, w64}
use Rattle.lemonrudder.specs.declared.seed.Seed.{Seed}

-- the two numbers as octets, each with its lowest octet first
abbrev pub octets_of_seed : Seed → List ℕ
octets_of_seed s = to_le_bytes w64 s.low ++ to_le_bytes w64 s.high
