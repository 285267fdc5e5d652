use Rattle.std.proofs.Common.{◌≡◌, [], map, drop, arith}
use Rattle.cdr_core.specs.declared.order.Order.TheVariants.{Big}
use Rattle.giop_core.specs.Items.{item_at}
use Rattle.ft_orb.proofs.Listed.{all_takes, taking, takes_none, takes_on}
use Rattle.ft_orb.proofs.carrying.end_of_contexts.Goals as goal

pub returns-then-end : goal.returns-then-end
returns-then-end c =
    let all = all_takes Big (map item_at c.args.contexts.now) 16 in
    let whole = c.loop-one.invariant.whole in
    let long = c.if-end.true in
    let step = takes_on c.args.contexts.now c.loop-one.one-index (0, record { ref_ptr = (0, 0); now = [] }) c.loop-one-test.true c.loop-one.end in
    omega (arith, all, whole, long, step, c.aligned.ensures)

pub returns : goal.returns
returns c =
    let all = all_takes Big (map item_at c.args.contexts.now) 16 in
    let whole = c.loop-one.invariant.whole in
    let none : taking (map item_at (drop c.loop-one.one-index c.args.contexts.now)) c.loop-one.end ≡ 0 = takes_none c.args.contexts.now c.loop-one.one-index c.loop-one.end (omega (arith, c.loop-one-test.false)) in
    (omega (arith, all, whole, none, c.loop-one.invariant.short), omega (arith, all, whole, none))
