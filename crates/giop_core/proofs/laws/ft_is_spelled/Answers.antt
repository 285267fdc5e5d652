use Rattle.giop_core.proofs.FirstContext.{absent_nowhere, present_spelled}
use Rattle.giop_core.proofs.laws.ft_is_spelled.Goals as goal

pub returns-clause-present : goal.returns-clause-present
returns-clause-present c = present_spelled c.read_is_spelled.ensures c.spelled_is_read.ensures

pub returns-clause-absent : goal.returns-clause-absent
returns-clause-absent c = absent_nowhere
