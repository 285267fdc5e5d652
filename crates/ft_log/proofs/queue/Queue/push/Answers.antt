use Rattle.std.proofs.Common.{◌≡◌, ◌+◌, ◌-◌, ◌<◌, ℕ, Some, nat_lt, length, filter, refl, ◌∙◌, arith}
use Rattle.std.specs.BinaryHeap.{heap_capacity, heap_items, heap_len}
use Rattle.std.specs.List.{sum_by}
use Rattle.std.proofs.lemmas.Bool.{eq-eqb}
use Rattle.std.proofs.lemmas.List.Sorted.{sum_by_pushed}
use Rattle.slab.specs.Slab.{slab_len}
use Rattle.ft_log.specs.Places.{is_kept}
use Rattle.ft_log.specs.declared.due.Due.{Due}
use Rattle.ft_log.proofs.Queued.{apart-came, counted-came, fits_parts, got, kept_many, sums-came}
use Rattle.ft_log.proofs.queue.Queue.push.Goals as goal
use Rattle.ft_log.proofs.queue.Queue.push.Goals.{After-push}

-- the due that comes
abbrev due : After-push → Due
due c = record { until = record { 0 = c.args.until }; slot = c.insert_reserved-slot.result; key = c.args.key }

-- it is there
came : (c : After-push) → (f : Due → ℕ) → sum_by f (heap_items c.push.new.self) ≡ f (due c) + sum_by f (heap_items c.args.self.now.heap)
came c f =
    let s = c.args.self.now in
    let fit = fits_parts (nat_lt (slab_len s.places) s.places.capacity) (length (filter (is_kept s.places) (heap_items s.heap))) (heap_capacity s.heap - s.withdrawn) c.requires in
    let room : heap_len s.heap < heap_capacity s.heap = omega (arith, fit.0, kept_many s.places (heap_items s.heap), s.counted, s.heap.data.ok.0) in
    sum_by_pushed f (due c) (heap_items s.heap) _ (got c.push.result (c.push.ensures.succeeds room) c.push.ensures.permutation)

pub invariant_of-self-clause-apart : goal.invariant_of-self-clause-apart
invariant_of-self-clause-apart c =
    let s = c.args.self.now in
    let slot = c.insert_reserved-slot in
    apart-came s.places slot.new.self slot.result (Some (Some c.args.place)) slot.ensures.updates (due c) (eq-eqb slot.result slot.result refl) (heap_items s.heap) (heap_items c.push.new.self) (came c) s.apart slot.ensures.was_vacant refl

pub invariant_of-self-clause-counted : goal.invariant_of-self-clause-counted
invariant_of-self-clause-counted c =
    let s = c.args.self.now in
    let slot = c.insert_reserved-slot in
    counted-came s.places slot.new.self slot.result (Some (Some c.args.place)) slot.ensures.updates (due c) (eq-eqb slot.result slot.result refl) (heap_items s.heap) (heap_items c.push.new.self) (came c) s.apart slot.ensures.was_vacant refl ∙ s.counted

pub returns-clause-sums : goal.returns-clause-sums
returns-clause-sums c =
    let s = c.args.self.now in
    let slot = c.insert_reserved-slot in
    sums-came s.places slot.new.self slot.result (Some (Some c.args.place)) slot.ensures.updates (due (goal.at.returns-clause-sums c).After-push) (eq-eqb slot.result slot.result refl) (heap_items s.heap) (heap_items c.push.new.self) (came (goal.at.returns-clause-sums c).After-push) s.apart slot.ensures.was_vacant refl
