-- Moments, of the system's time.
use Rattle.std.specs.Prelude.{ℕ, ◌+◌, ◌*◌, ◌-◌, ◌/◌, ◌^◌, min}

-- 1 January 1970, 00:00 UTC, in units of 100 ns since 15 October 1582
abbrev pub unix_epoch : ℕ
unix_epoch = 122192928000000000

-- the moment of seconds and nanoseconds since then, or the greatest
abbrev pub moment_of : (seconds nanoseconds : ℕ) → ℕ
moment_of seconds nanoseconds = min (seconds * 10000000 + nanoseconds / 100 + unix_epoch) (2 ^ 64 - 1)
