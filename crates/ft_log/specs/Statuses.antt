-- The statuses of a Reply whose body comes as octets.
use Rattle.std.specs.Prelude.{ℕ}
use Rattle.ft_log.specs.declared.outcome.RawStatus.{RawStatus}
use Rattle.ft_log.specs.declared.outcome.RawStatus.TheVariants.{NoException, UserException, SystemException, LocationForward}

-- GIOP 9.4.3: its ordinal
abbrev pub status_number : RawStatus → ℕ
status_number NoException = 0
status_number UserException = 1
status_number SystemException = 2
status_number LocationForward = 3
