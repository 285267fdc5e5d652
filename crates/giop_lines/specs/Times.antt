-- Times of a capture, in nanoseconds.
use Rattle.std.specs.Prelude.{ℕ, nat_lt, ◌-◌, max, Option, Some, None, if◌then◌else◌}

-- how long after one time another is, unless it lies before, or one of them is not known
abbrev pub between : Option ℕ → Option ℕ → Option ℕ
between None later = None
between (Some e) None = None
between (Some e) (Some l) = if nat_lt l e then None else Some (l - e)

-- the later of two times, as far as they are known
abbrev pub later_of : Option ℕ → Option ℕ → Option ℕ
later_of None other = other
later_of (Some n) None = Some n
later_of (Some n) (Some m) = Some (max n m)
