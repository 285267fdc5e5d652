use Rattle.std.proofs.Common.{refl}
use Rattle.std.specs.BinaryHeap.{heap_items}
use Rattle.ft_log.proofs.Queued.{before_first}
use Rattle.ft_log.proofs.queue.Queue.first.Goals as goal

pub returns-clause-before : goal.returns-clause-before
returns-clause-before c = before_first _ (λ x y. refl) c.args.self.now.places c.peek.result (heap_items c.args.self.now.heap) c.args.self.now.ordered c.peek.ensures.greatest
