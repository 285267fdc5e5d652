-- Moments of the clock, in the units of FT_REQUEST's expiration (TimeBase::TimeT).
use Rattle.std.specs.Prelude.{ℕ, ◌+◌, ◌/◌}

-- the moment so many nanoseconds after 1 January 1970, in whole units of 100 ns since 15 October 1582
abbrev pub moment_at : ℕ → ℕ
moment_at nanos = 122_192_928_000_000_000 + nanos / 100
