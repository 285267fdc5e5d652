use Rattle.std.proofs.Common.{◌≡◌, []}
use Rattle.std.proofs.lemmas.Result.{IfOk-weaker}
use Rattle.giop_frames.specs.declared.limits.Limits.{Limits}
use Rattle.ft_orb.specs.Standing.{Stands}
use Rattle.uses.specs.Serving.{first_output, second_output, tickets_made}
use Rattle.uses.specs.Tickets.{tickets_meaning}
use Rattle.uses.proofs.Served.{as_made}
use Rattle.uses.proofs.serving.serve_once.Goals as goal

pub returns-clause-first : goal.returns-clause-first
returns-clause-first c =
    let start = as_made c.args.limits c.in_ok-tickets.tickets c.new-server.result c.in_ok-tickets.ensures c.new-server.ensures.stands in
    IfOk-weaker c.serve_twice.result
    (λ w. (limits : Limits) → Stands tickets_meaning (tickets_made limits) c.new-server.result [] → w.0.items ≡ first_output limits c.args.octets.now)
    (λ w. w.0.items ≡ first_output c.args.limits c.args.octets.now)
    (λ w is. is c.args.limits start) c.serve_twice.ensures.first

pub returns-clause-second : goal.returns-clause-second
returns-clause-second c =
    let start = as_made c.args.limits c.in_ok-tickets.tickets c.new-server.result c.in_ok-tickets.ensures c.new-server.ensures.stands in
    IfOk-weaker c.serve_twice.result
    (λ w. (limits : Limits) → Stands tickets_meaning (tickets_made limits) c.new-server.result [] → w.1.items ≡ second_output limits c.args.octets.now)
    (λ w. w.1.items ≡ second_output c.args.limits c.args.octets.now)
    (λ w is. is c.args.limits start) c.serve_twice.ensures.second
