use Rattle.std.proofs.Common.{rules}
use Rattle.cdr_core.specs.Reading.{octets_at, value_at}
use Rattle.cdr_core.proofs.cursor.Cursor.octets_within.Goals as goal

pub returns-in_err-size : goal.returns-in_err-size
unfolding value_at octets_at
returns-in_err-size c = search rules

pub returns-in_err-octets : goal.returns-in_err-octets
unfolding value_at octets_at
returns-in_err-octets c = search rules

pub returns : goal.returns
unfolding value_at octets_at
returns c = search rules
