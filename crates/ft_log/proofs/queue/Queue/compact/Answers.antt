use Rattle.std.proofs.Common.{rules, ◌≡◌, ◌==◌, ◌∙◌, cond, not, nat_lt, ℕ, Some, is_some, option_map, filter, ap}
use Rattle.std.specs.BinaryHeap.{heap_items}
use Rattle.std.specs.List.{count_by, sum_by}
use Rattle.std.proofs.lemmas.Fn.{filter_same}
use Rattle.std.proofs.lemmas.List.Sorted.{sum_by-IsPermutation}
use Rattle.slab.specs.Slab.{get}
use Rattle.ft_log.specs.Places.{is_kept, place_in}
use Rattle.ft_log.specs.declared.due.Due.{Due}
use Rattle.ft_log.proofs.Queued.{AreFreed, apart-compact, counted-compact, place_freed, sums-compact, topped_of}
use Rattle.ft_log.proofs.queue.Queue.compact.Goals as goal
use Rattle.ft_log.proofs.queue.Queue.compact.Goals.{After-retain}

-- the slots of what is withdrawn are free
freed : (c : After-retain) → AreFreed c.args.self.now.places (λ slot. count_by (λ (d : Due). d.slot == slot) (heap_items c.args.self.now.heap)) c.free.new.places
freed c slot =
    let s = c.args.self.now in
    c.free.ensures.freed slot ∙ (λ i. cond (nat_lt 0 (count_by (λ (d : Due). d.slot == slot) (c.as_slice.ensures.value i))) (option_map Some (place_in s.places slot)) (get s.places slot))

same : (c : After-retain) → (slot : ℕ) → place_in c.free.new.places slot ≡ place_in c.args.self.now.places slot
same c slot = place_freed c.args.self.now.places c.free.new.places (λ slot. count_by (λ (d : Due). d.slot == slot) (heap_items c.args.self.now.heap)) (freed c) slot

-- what stays is kept
stays : (c : After-retain) → (f : Due → ℕ) → sum_by f (heap_items c.retain.new.self) ≡ sum_by f (filter (is_kept c.args.self.now.places) (heap_items c.args.self.now.heap))
stays c f =
    let s = c.args.self.now in
    let all = c.retain.ensures.filtered in
    let is = filter_same _ (λ d. is_kept c.free.new.places d) _ (λ x b f' k. search rules) _ _ all.1 in
    sum_by-IsPermutation f all.0 (heap_items c.retain.new.self) all.2 ∙ ap (sum_by f) is ∙ (λ i. sum_by f (filter (λ d. is_some (same c d.slot i)) (heap_items s.heap)))

none : (c : After-retain) → count_by (λ d. not (is_kept c.free.new.places d)) (heap_items c.retain.new.self) ≡ 0
none c = counted-compact c.args.self.now.places c.free.new.places (heap_items c.args.self.now.heap) (heap_items c.retain.new.self) (same c) (stays c)

pub invariant_of-self-clause-apart : goal.invariant_of-self-clause-apart
invariant_of-self-clause-apart c =
    let s = c.args.self.now in
    apart-compact s.places c.free.new.places (heap_items s.heap) (heap_items c.retain.new.self) (same c) (stays c) s.apart (freed c)

pub invariant_of-self-clause-counted : goal.invariant_of-self-clause-counted
invariant_of-self-clause-counted c = none c

pub returns-clause-sums : goal.returns-clause-sums
returns-clause-sums c =
    let s = c.args.self.now in
    let at = (goal.at.returns-clause-sums c).After-retain in
    sums-compact s.places c.free.new.places (heap_items s.heap) (heap_items c.retain.new.self) (same at) (stays at)

pub returns-clause-topped : goal.returns-clause-topped
returns-clause-topped c = topped_of c.free.new.places (heap_items c.retain.new.self) (none (goal.at.returns-clause-topped c).After-retain)
