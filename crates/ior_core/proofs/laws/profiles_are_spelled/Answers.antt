use Rattle.ior_core.proofs.Enclosed.{profiles_only}
use Rattle.ior_core.proofs.laws.profiles_are_spelled.Goals as goal

pub returns-clause-read : goal.returns-clause-read
returns-clause-read c = profiles_only c.read_is_spelled.ensures c.spelled_is_read.ensures
