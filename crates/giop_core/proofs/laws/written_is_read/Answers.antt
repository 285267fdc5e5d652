use Rattle.giop_core.proofs.ReadAgain.{cancel_read, locate_reply_read, locate_request_read, reply_read, request_read}
use Rattle.giop_core.proofs.laws.written_is_read.Goals as goal

pub returns-clause-request : goal.returns-clause-request
returns-clause-request c = request_read c.spelled_is_read.ensures c.written_is_spelled.ensures

pub returns-clause-reply : goal.returns-clause-reply
returns-clause-reply c = reply_read c.spelled_is_read.ensures c.written_is_spelled.ensures

pub returns-clause-cancel : goal.returns-clause-cancel
returns-clause-cancel c = cancel_read c.spelled_is_read.ensures c.written_is_spelled.ensures

pub returns-clause-locate_request : goal.returns-clause-locate_request
returns-clause-locate_request c = locate_request_read c.spelled_is_read.ensures c.written_is_spelled.ensures

pub returns-clause-locate_reply : goal.returns-clause-locate_reply
returns-clause-locate_reply c = locate_reply_read c.spelled_is_read.ensures c.written_is_spelled.ensures
