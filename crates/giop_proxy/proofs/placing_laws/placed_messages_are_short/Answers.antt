use Rattle.giop_proxy.proofs.Shortest.{replies_short, requests_short}
use Rattle.giop_proxy.proofs.placing_laws.placed_messages_are_short.Goals as goal

pub returns-clause-request : goal.returns-clause-request
returns-clause-request c = requests_short

pub returns-clause-reply : goal.returns-clause-reply
returns-clause-reply c = replies_short
