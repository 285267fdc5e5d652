-- What a log keeps for a request.
use Rattle.std.specs.Prelude.{ℕ, Option, Some, None}
use Rattle.ft_log.specs.Performed.{Performed}

-- the outcome; or, where the call is parked and its outcome comes later, the number of that
pub data Holding : Type 0 where
  known : Performed → Holding
  parked : ℕ → Holding

-- the outcome, if it is there
abbrev pub performed_by : Holding → Option Performed
performed_by (known outcome) = Some outcome
performed_by (parked number) = None

-- the number of the call, if it is parked
abbrev pub number_of : Holding → Option ℕ
number_of (known outcome) = None
number_of (parked number) = Some number
