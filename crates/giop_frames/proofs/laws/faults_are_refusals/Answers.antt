use Rattle.giop_frames.proofs.Refusing.{faults_refused, refusals_fault}
use Rattle.giop_frames.proofs.laws.faults_are_refusals.Goals as goal

pub returns-clause-refused : goal.returns-clause-refused
returns-clause-refused c = faults_refused

pub returns-clause-fault : goal.returns-clause-fault
returns-clause-fault c = refusals_fault
