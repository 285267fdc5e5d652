use Rattle.std.proofs.Common.{◌∙◌}
use Rattle.uses.specs.Retrying.{served}
use Rattle.uses.specs.Serving.{tickets_made}
use Rattle.uses.proofs.Served.{as_made}
use Rattle.uses.proofs.retrying.next_ticket.Goals as goal

pub returns-clause-ended : goal.returns-clause-ended
returns-clause-ended c =
    let start = as_made c.args.limits c.in_ok-tickets.tickets c.new-server.result c.in_ok-tickets.ensures c.new-server.ensures.stands in
    c.in_ok-completion.ensures.ended c.args.limits c.in_ok-client.ensures.stands start

pub returns-clause-given : goal.returns-clause-given
returns-clause-given c = λ each.
    let start = as_made c.args.limits c.in_ok-tickets.tickets c.new-server.result c.in_ok-tickets.ensures c.new-server.ensures.stands in
    let stands = c.in_ok-completion.ensures.stands c.args.limits c.in_ok-client.ensures.stands start in
    c.given.ensures ∙ c.servant.ensures.state (tickets_made c.args.limits) (served c.args.limits) stands each
