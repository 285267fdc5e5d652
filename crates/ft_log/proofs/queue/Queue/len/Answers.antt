use Rattle.std.proofs.Common.{arith}
use Rattle.std.specs.BinaryHeap.{heap_items}
use Rattle.ft_log.proofs.Queued.{kept_many}
use Rattle.ft_log.proofs.queue.Queue.len.Goals as goal

pub returns : goal.returns
returns c =
    let s = c.args.self.now in
    omega (arith, kept_many s.places (heap_items s.heap), s.counted, c.len.ensures, s.heap.data.ok.0)
