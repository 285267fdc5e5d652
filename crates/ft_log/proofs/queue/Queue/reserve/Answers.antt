use Rattle.std.proofs.Common.{◌≡◌, ◌∙◌, ◌+◌, ◌-◌, ◌≤◌, not, nat_lt, length, filter, arith}
use Rattle.std.specs.BinaryHeap.{heap_capacity, heap_items}
use Rattle.std.specs.List.{count_by}
use Rattle.std.proofs.lemmas.Bool.{lt-ltb}
use Rattle.slab.specs.Slab.{slab_len}
use Rattle.ft_log.specs.Places.{is_kept}
use Rattle.ft_log.proofs.Queued.{fits_from, kept_many, on_ok}
use Rattle.ft_log.proofs.queue.Queue.reserve.Goals as goal

pub returns-clause-ok : goal.returns-clause-ok
returns-clause-ok c =
    let s = c.args.self.now in
    let heap = c.reserve.new.self in
    let places = c.reserve-2.new.self in
    let many = kept_many places (heap_items heap) in
    let gone : count_by (λ d. not (is_kept places d)) (heap_items heap) ≡ s.withdrawn = (λ i. count_by (λ d. not (is_kept (c.reserve-2.ensures.rest_kept i) d)) (c.in_ok-reserve.ensures.items i)) ∙ s.counted in
    on_ok c.reserve-2.result
    (λ (room : slab_len places + 1 ≤ places.capacity). fits_from (nat_lt (slab_len places) places.capacity) (length (filter (is_kept places) (heap_items heap))) (heap_capacity heap - s.withdrawn)
    (lt-ltb (slab_len places) places.capacity (omega (arith, room))) (omega (arith, many, gone, c.in_ok-reserve.ensures.ok, heap.data.ok.0)))
    c.reserve-2.ensures.room
