use Rattle.std.proofs.Common.{map, reverse, take, ◌++◌, arith}
use Rattle.uses.specs.Pieces.{event_of}
use Rattle.uses.proofs.Fed.{fed-more}
use Rattle.uses.proofs.pieces.feed_all.Goals as goal

pub loop-piece-preserved : goal.loop-piece-preserved
loop-piece-preserved g c made past st =
    let pieces = c.args.pieces.now in
    let i = c.loop-piece.piece-index in
    let x = c.loop-piece.invariant made past st in
    let w = c.in_ok-feed.ensures.table made (reverse (map event_of (take i pieces)) ++ past) x.1 in
    fed-more g.S.Servant.meaning made c.feed.new.self pieces i c.piece-item.result c.deref.result.now past c.args.out.now.items c.loop-piece.out.items c.feed.new.out.items w.0 c.loop-piece-test.true c.piece-item.is c.deref.ensures.value x.0 w.1 w.2.0 w.3
