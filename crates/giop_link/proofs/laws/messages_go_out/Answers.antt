use Rattle.giop_link.proofs.GoingOut.{cancels-go-out, farewells-go-out, locate-replies-go-out, replies-go-out, requests-go-out}
use Rattle.giop_link.proofs.laws.messages_go_out.Goals as goal

pub returns-clause-request : goal.returns-clause-request
returns-clause-request c = requests-go-out c.written_requests_carry_ft.ensures

pub returns-clause-cancel : goal.returns-clause-cancel
returns-clause-cancel c = cancels-go-out c.written_sizes.ensures.cancel

pub returns-clause-reply : goal.returns-clause-reply
returns-clause-reply c = replies-go-out c.written_sizes.ensures.reply

pub returns-clause-locate_reply : goal.returns-clause-locate_reply
returns-clause-locate_reply c = locate-replies-go-out c.written_sizes.ensures.locate_reply

pub returns-clause-farewell : goal.returns-clause-farewell
returns-clause-farewell c = farewells-go-out
