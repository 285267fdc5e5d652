use Rattle.std.proofs.Common.{None, Some, refl, ◌∙◌, arith}
use Rattle.std.specs.BinaryHeap.{heap_items}
use Rattle.ft_log.specs.View.{key_of}
use Rattle.ft_log.proofs.Queued.{IsPopped, apart-went, apart-withdrawn, counted-taken, counted-withdrawn, kept_at, out-taken, out-withdrawn, popped_first}
use Rattle.ft_log.proofs.queue.Queue.withdraw.Goals as goal
use Rattle.ft_log.proofs.queue.Queue.withdraw.Goals.{After-remove}

-- what is popped, where it is first
gone : (c : After-remove) → IsPopped c.args.slot (heap_items c.args.self.now.heap) (heap_items c.pop.new.self)
gone c =
    let s = c.args.self.now in
    popped_first c.pop.result c.args.slot (heap_items s.heap) (heap_items c.pop.new.self) (c.is_first.ensures c.if-is_first.true) (λ n. c.pop.ensures.variant.1 (omega (arith, n, s.heap.data.ok.0))) c.pop.ensures.top c.pop.ensures.permutation

pub invariant_of-self-clause-apart : goal.invariant_of-self-clause-apart
invariant_of-self-clause-apart c =
    let s = c.args.self.now in
    let g = gone c in
    apart-went s.places c.remove.new.self c.args.slot None c.remove.ensures.updates g.due g.at (heap_items s.heap) (heap_items c.pop.new.self) g.sums s.apart refl

pub invariant_of-self-clause-counted : goal.invariant_of-self-clause-counted
invariant_of-self-clause-counted c =
    let s = c.args.self.now in
    let g = gone c in
    counted-taken s.places c.remove.new.self c.args.slot None c.remove.ensures.updates g.due g.at (heap_items s.heap) (heap_items c.pop.new.self) g.sums s.apart (kept_at s.places g.due c.args.slot g.at c.requires.place) ∙ s.counted

pub returns-then-is_first-clause-out : goal.returns-then-is_first-clause-out
returns-then-is_first-clause-out c =
    let s = c.args.self.now in
    let g = gone (goal.at.returns-then-is_first-clause-out c).After-remove in
    out-taken s.places c.remove.new.self c.args.slot None c.remove.ensures.updates g.due g.at (heap_items s.heap) (heap_items c.pop.new.self) g.sums s.apart (kept_at s.places g.due c.args.slot g.at c.requires.place) (key_of c.args._key.now.key) c.requires.there

pub invariant_of-self-2-clause-apart : goal.invariant_of-self-2-clause-apart
invariant_of-self-2-clause-apart c =
    let s = c.args.self.now in
    apart-withdrawn s.places c.set.new.places c.args.slot (Some None) c.set.ensures.updates (heap_items s.heap) s.apart c.requires.place refl refl

pub invariant_of-self-2-clause-counted : goal.invariant_of-self-2-clause-counted
invariant_of-self-2-clause-counted c =
    let s = c.args.self.now in
    let more = counted-withdrawn s.places c.set.new.places c.args.slot (Some None) c.set.ensures.updates (heap_items s.heap) s.apart c.requires.place refl refl in
    omega (arith, more, s.counted)

pub returns-clause-out : goal.returns-clause-out
returns-clause-out c =
    let s = c.args.self.now in
    out-withdrawn s.places c.set.new.places c.args.slot (Some None) c.set.ensures.updates (heap_items s.heap) s.apart c.requires.place refl refl (key_of c.args._key.now.key) c.requires.there
