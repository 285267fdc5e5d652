use Rattle.std.proofs.Common.{None, refl, arith}
use Rattle.std.specs.BinaryHeap.{heap_items}
use Rattle.ft_log.proofs.Queued.{IsPopped, apart-went, counted-went, gone_at, popped_first, sums-went}
use Rattle.ft_log.proofs.queue.Queue.drop_first.Goals as goal
use Rattle.ft_log.proofs.queue.Queue.drop_first.Goals.{After-remove}

-- what is popped
gone : (c : After-remove) → IsPopped c.in-Some.slot (heap_items c.args.self.now.heap) (heap_items c.pop.new.self)
gone c =
    let s = c.args.self.now in
    popped_first c.pop.result c.in-Some.slot (heap_items s.heap) (heap_items c.pop.new.self) c.in-Some.ensures.first (λ n. c.pop.ensures.variant.1 (omega (arith, n, s.heap.data.ok.0))) c.pop.ensures.top c.pop.ensures.permutation

pub invariant_of-self-clause-apart : goal.invariant_of-self-clause-apart
invariant_of-self-clause-apart c =
    let s = c.args.self.now in
    let g = gone c in
    apart-went s.places c.remove.new.self c.in-Some.slot None c.remove.ensures.updates g.due g.at (heap_items s.heap) (heap_items c.pop.new.self) g.sums s.apart refl

pub invariant_of-self-clause-counted : goal.invariant_of-self-clause-counted
invariant_of-self-clause-counted c =
    let s = c.args.self.now in
    let g = gone c in
    let fewer = counted-went s.places c.remove.new.self c.in-Some.slot None c.remove.ensures.updates g.due g.at (heap_items s.heap) (heap_items c.pop.new.self) g.sums s.apart (gone_at s.places g.due c.in-Some.slot g.at c.in-Some.ensures.withdrawn) in
    omega (arith, fewer, s.counted)

pub returns-clause-sums : goal.returns-clause-sums
returns-clause-sums c =
    let s = c.args.self.now in
    let g = gone (goal.at.returns-clause-sums c).After-remove in
    sums-went s.places c.remove.new.self c.in-Some.slot None c.remove.ensures.updates g.due g.at (heap_items s.heap) (heap_items c.pop.new.self) g.sums s.apart (gone_at s.places g.due c.in-Some.slot g.at c.in-Some.ensures.withdrawn)
