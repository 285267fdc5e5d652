use Rattle.std.proofs.Common.{true≢false, nat_lt, is_some, refl, sym, ap, ◌∙◌}
use Rattle.std.specs.BinaryHeap.{heap_items}
use Rattle.std.specs.List.{count_by}
use Rattle.ft_log.specs.Dues.{dues}
use Rattle.ft_log.specs.declared.due.Due.{Due}
use Rattle.ft_log.proofs.Heaped.{none_earlier}
use Rattle.ft_log.proofs.Queued.{first_kept, if_none, none_first, rest_of}
use Rattle.ft_log.proofs.order.Order.before.Goals as goal

pub returns-in_err-due-clause-none : goal.returns-in_err-due-clause-none
returns-in_err-due-clause-none c = if_none c.from_residual.result (ap (count_by (λ (d : Due). nat_lt d.until.0 c.args.now)) (none_first (dues c.args.self.now) c.in_err-due.ensures.first))

pub returns-then-now-due-clause-none : goal.returns-then-now-due-clause-none
returns-then-now-due-clause-none c = none_earlier c.in_ok-due.due.now.until.0 c.args.now (dues c.args.self.now) c.if-now-due.true c.in_ok-due.ensures.before

pub returns-in_err-place-clause-none : goal.returns-in_err-place-clause-none
returns-in_err-place-clause-none c =
    let q = c.args.self.now.queue in
    absurd (true≢false (sym (first_kept q.places (heap_items q.heap) c.in_ok-due.due.now c.in_ok-due.ensures.first) ∙ ap is_some (sym c.in_err-place.ensures)))

pub returns-clause-first : goal.returns-clause-first
returns-clause-first c =
    let rest = rest_of (dues c.args.self.now) c.in_ok-due.due.now c.in_ok-due.ensures.first in
    record { due = c.in_ok-due.due.now; rest = rest.0; is = rest.1; before = c.if-now-due.false; slot = refl; place = sym c.in_ok-place.ensures; key = c.copy.ensures }
