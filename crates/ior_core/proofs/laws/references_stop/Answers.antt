use Rattle.ior_core.proofs.Refused.{references_stop}
use Rattle.ior_core.proofs.laws.references_stop.Goals as goal

pub returns : goal.returns
returns c = references_stop c.faults_stop.ensures.stop c.faults_stop.ensures.faults
