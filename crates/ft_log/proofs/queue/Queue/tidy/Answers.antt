use Rattle.std.proofs.Common.{◌∙◌}
use Rattle.std.specs.BinaryHeap.{heap_items}
use Rattle.ft_log.proofs.Queued.{topped_of}
use Rattle.ft_log.proofs.queue.Queue.tidy.Goals as goal

pub returns-then-self-eq0-clause-topped : goal.returns-then-self-eq0-clause-topped
returns-then-self-eq0-clause-topped c = topped_of c.args.self.now.places (heap_items c.args.self.now.heap) (c.args.self.now.counted ∙ c.if-self-eq0.true)
