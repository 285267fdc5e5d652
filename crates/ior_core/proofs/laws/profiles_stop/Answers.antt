use Rattle.ior_core.proofs.Refused.{profiles_stop}
use Rattle.ior_core.proofs.laws.profiles_stop.Goals as goal

pub returns : goal.returns
returns c = profiles_stop c.read_is_spelled.ensures c.spelled_is_read.ensures c.faults_stop.ensures.stop c.faults_stop.ensures.faults
