use Rattle.std.proofs.Common.{length, take, drop, arith}
use Rattle.ft_ends.proofs.Ways.{way-cleared, way-next}
use Rattle.ft_ends.proofs.way.Way.pass.Goals as goal

pub returns-then-self-len : goal.returns-then-self-len
returns-then-self-len c all went h =
    let n = way-next c.args.self.now all went c.args.count h in
    let len = c.len.ensures in
    let left = c.saturating_sub-left.ensures in
    let least = c.min.ensures in
    let len2 = c.len-2.ensures in
    let full = c.if-self-len.true in
    way-cleared c.args.self.now c.clear.new.self all went (length (take c.args.count (drop went all))) c.clear.ensures (omega (arith, n, len, left, least, len2, full)) h
