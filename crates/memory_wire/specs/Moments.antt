-- What a clock says that has given so many of its moments: these, and nothing where it had fewer.
use Rattle.std.specs.Prelude.{ℕ, nat_le, List, length, take, Option, Some, None, if◌then◌else◌}

abbrev pub moments_given : List ℕ → ℕ → Option (List ℕ)
moments_given moments n = if nat_le n (length moments) then Some (take n moments) else None
