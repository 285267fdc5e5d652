-- What is written is read again.
use Rattle.cdr_core.specs.Laws.{WrittenIsRead, WrittenValuesAreRead}
use Rattle.cdr_core.specs.Writing.{octets_of, octets_of_all}
use Rattle.cdr_core.proofs.Only.{members_only, only}
use Rattle.cdr_core.proofs.Written.{members_spelled, spelled}

pub read_again : WrittenIsRead
read_again t v fits order o rest = only t order v o (octets_of order v o) rest (spelled t order v fits o)

pub all_read_again : WrittenValuesAreRead
all_read_again ts vs fit order o rest = members_only ts order vs o (octets_of_all order vs o) rest (members_spelled ts order vs fit o)
