use Rattle.std.proofs.Common.{arith, nat_lt}
use Rattle.std.proofs.lemmas.List.{length-map}
use Rattle.std.specs.BinaryHeap.{heap_items}
use Rattle.ft_log.specs.Keys.{clients_in}
use Rattle.ft_log.specs.Logged.{dues_of, logged, slots_of}
use Rattle.ft_log.specs.View.{entry_in}
use Rattle.ft_log.proofs.Entries.{clients_few, keys_at, length_sum}
use Rattle.ft_log.proofs.Dated.{as_many}
use Rattle.ft_log.proofs.Listed.{length_keys}
use Rattle.ft_log.proofs.Queued.{kept_many}
use Rattle.ft_log.proofs.Slots.{counted_few}
use Rattle.ft_log.proofs.store.Store.slots_are_few.Goals as goal

pub returns-clause-each : goal.returns-clause-each
unfolding logged slots_of
returns-clause-each c =
    let s = c.args.self.now in
    omega (arith, s.slim, s.listed (λ _. 1), length_sum s.kept.outcomes.entries, length_sum s.story.entries, length_keys s.story.entries, length-map s.story.entries entry_in, counted_few (nat_lt s.share s.capacity) (clients_in (keys_at s.story.entries)))

pub returns-clause-twice : goal.returns-clause-twice
unfolding logged slots_of
returns-clause-twice c =
    let s = c.args.self.now in
    omega (arith, s.slim, s.listed (λ _. 1), length_sum s.kept.outcomes.entries, length_sum s.story.entries, length_keys s.story.entries, length-map s.story.entries entry_in, clients_few (keys_at s.story.entries), counted_few (nat_lt s.share s.capacity) (clients_in (keys_at s.story.entries)))

pub returns-clause-bound : goal.returns-clause-bound
unfolding logged slots_of
returns-clause-bound c =
    let s = c.args.self.now in
    omega (arith, s.slim, s.listed (λ _. 1), length_sum s.kept.outcomes.entries, length_sum s.story.entries, length_keys s.story.entries, s.within, clients_few (keys_at s.story.entries), counted_few (nat_lt s.share s.capacity) (clients_in (keys_at s.story.entries)))

pub returns-clause-dues : goal.returns-clause-dues
unfolding logged dues_of
returns-clause-dues c =
    let s = c.args.self.now in
    let q = s.order.queue in
    omega (arith, s.order.few, kept_many q.places (heap_items q.heap), q.counted, as_many s.order s.story.entries s.dated, length-map s.story.entries entry_in, q.heap.data.ok.0)
