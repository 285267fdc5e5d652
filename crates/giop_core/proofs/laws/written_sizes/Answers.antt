use Rattle.giop_core.proofs.Sizes.{cancels-size, locate-replies-size, replies-size, requests-size}
use Rattle.giop_core.proofs.laws.written_sizes.Goals as goal

pub returns-clause-reply : goal.returns-clause-reply
returns-clause-reply c = replies-size

pub returns-clause-locate_reply : goal.returns-clause-locate_reply
returns-clause-locate_reply c = locate-replies-size

pub returns-clause-cancel : goal.returns-clause-cancel
returns-clause-cancel c = cancels-size

pub returns-clause-request : goal.returns-clause-request
returns-clause-request c = requests-size
