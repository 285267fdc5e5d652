use Rattle.giop_proxy.proofs.ReadAt.{replies_read, requests_read}
use Rattle.giop_proxy.proofs.placing_laws.placed_messages_are_read.Goals as goal

pub returns-clause-request : goal.returns-clause-request
returns-clause-request c = requests_read c.spelled_is_read.ensures c.written_is_spelled.ensures c.written_is_read.ensures.request

pub returns-clause-reply : goal.returns-clause-reply
returns-clause-reply c = replies_read c.written_is_read.ensures.reply
