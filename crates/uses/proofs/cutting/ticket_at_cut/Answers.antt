use Rattle.std.proofs.Common.{ℤ, List, ℕ, ◌≤◌, subst, sym, map, ap, ◌∙◌}
use Rattle.std.specs.List.{AllByRecursion}
use Rattle.ft_client.specs.Clients.{Ended}
use Rattle.ft_ends.specs.Playing.{given_of, step_as}
use Rattle.uses.specs.Cutting.{IsFirst, newcomers, steps_at, world_at}
use Rattle.uses.specs.Serving.{tickets_made}
use Rattle.uses.proofs.FirstTicket.{completed_first, each_unmap}
use Rattle.uses.proofs.OneTicket.{given_few}
use Rattle.uses.proofs.Played.{begins, completed_as, once_in, stands_in, taken_are}
use Rattle.uses.proofs.Served.{as_made}
use Rattle.uses.proofs.cutting.ticket_at_cut.Goals as goal

pub returns-clause-completed : goal.returns-clause-completed
returns-clause-completed c =
    let limits = c.args.limits in
    let stands = as_made limits c.in_ok-tickets.tickets c.new-server.result c.in_ok-tickets.ensures c.new-server.ensures.stands in
    let start = begins limits c.new-server.result c.in_ok-clients.clients.items stands c.in_ok-clients.ensures in
    let steps = taken_are c.in_ok-steps.steps.items c.deref.result.now (steps_at c.args.request c.args.reply) c.deref.ensures.value c.in_ok-steps.ensures.steps in
    completed_as limits c.both_ends.new.out.items c.new-completions.result.items _ (steps_at c.args.request c.args.reply) c.new-completions.ensures.items steps
    (c.in_ok-both_ends.ensures.given (tickets_made limits) (newcomers limits) start)

pub returns-clause-given : goal.returns-clause-given
returns-clause-given c =
    let limits = c.args.limits in
    let made = tickets_made limits in
    let stands = as_made limits c.in_ok-tickets.tickets c.new-server.result c.in_ok-tickets.ensures c.new-server.ensures.stands in
    let start = begins limits c.new-server.result c.in_ok-clients.clients.items stands c.in_ok-clients.ensures in
    let steps = taken_are c.in_ok-steps.steps.items c.deref.result.now (steps_at c.args.request c.args.reply) c.deref.ensures.value c.in_ok-steps.ensures.steps in
    let once = once_in limits _ (steps_at c.args.request c.args.reply) steps (c.in_ok-both_ends.ensures.once made (newcomers limits) start) in
    let whole = ap (map step_as) c.deref.ensures.value ∙ c.in_ok-steps.ensures.steps in
    let last = stands_in limits c.both_ends.new.server _ (steps_at c.args.request c.args.reply) whole (c.in_ok-both_ends.ensures.server made (newcomers limits) start) in
    c.given-given.ensures ∙ c.servant.ensures.state made (world_at limits c.args.request c.args.reply).past last once.expirations

pub returns-clause-once : goal.returns-clause-once
returns-clause-once c =
    let limits = c.args.limits in
    let stands = as_made limits c.in_ok-tickets.tickets c.new-server.result c.in_ok-tickets.ensures c.new-server.ensures.stands in
    let start = begins limits c.new-server.result c.in_ok-clients.clients.items stands c.in_ok-clients.ensures in
    let steps = taken_are c.in_ok-steps.steps.items c.deref.result.now (steps_at c.args.request c.args.reply) c.deref.ensures.value c.in_ok-steps.ensures.steps in
    once_in limits _ (steps_at c.args.request c.args.reply) steps (c.in_ok-both_ends.ensures.once (tickets_made limits) (newcomers limits) start)

pub returns-clause-few : goal.returns-clause-few
returns-clause-few c =
    let limits = c.args.limits in
    subst (λ (n : ℕ). n ≤ 1) (sym (returns-clause-given c)) (given_few limits c.args.request c.args.reply c.calls_are_of_steps.ensures (returns-clause-once c))

pub returns-clause-first : goal.returns-clause-first
returns-clause-first c =
    let limits = c.args.limits in
    each_unmap (λ x. IsFirst x.2) given_of c.both_ends.new.out.items
    (subst (λ (xs : List (ℕ × ℤ × Ended)). AllByRecursion (λ x. IsFirst x.2) xs) (sym (returns-clause-completed c)) (completed_first limits c.args.request c.args.reply c.calls_are_of_steps.ensures (returns-clause-once c)))
