use Rattle.giop_core.proofs.Refused.{message_refused, message_stops, unknown_target}
use Rattle.giop_core.proofs.laws.refused_messages_stop.Goals as goal

pub returns-clause-stop : goal.returns-clause-stop
returns-clause-stop c = message_stops c.faults_stop.ensures.stop c.read_is_spelled.ensures

pub returns-clause-refused : goal.returns-clause-refused
returns-clause-refused c = message_refused c.faults_stop.ensures.faults c.spelled_is_read.ensures

pub returns-clause-unknown : goal.returns-clause-unknown
returns-clause-unknown c = unknown_target
