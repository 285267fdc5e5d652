use Rattle.std.proofs.Common.{◌≤◌, arith}
use Rattle.giop_trials.proofs.Pieces.{stands_further}
use Rattle.giop_trials.proofs.feeding.feed_octets.Goals as goal

pub loop-taken-preserved : goal.loop-taken-preserved
loop-taken-preserved c =
    let i = c.loop-taken.invariant in
    let left = c.split_at.ensures in
    let piece = c.split_at-in-loop-taken.ensures in
    let fed = c.in_ok-taken.ensures in
    let n = c.in_ok-taken.field-0 in
    let short : n ≤ c.min.result = omega (arith, fed.within, piece.front_len) in
    record {
      within = omega (arith, short, left.back_len, c.min.ensures);
      stands = λ s stands.
          stands_further c.feed.new.self s c.loop-taken.taken n c.min.result c.args.octets.now c.split_at.result.1.now c.split_at-in-loop-taken.result.0.now left.back piece.front short (fed.stands _ (i.stands s stands));
    }
