use Rattle.ior_core.proofs.Enclosed.{references_only}
use Rattle.ior_core.proofs.laws.references_are_spelled.Goals as goal

pub returns-clause-read : goal.returns-clause-read
returns-clause-read c = references_only c.spelled_is_read.ensures
