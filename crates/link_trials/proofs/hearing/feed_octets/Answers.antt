use Rattle.std.proofs.Common.{◌≤◌, arith}
use Rattle.link_trials.proofs.Pieces.{link_further}
use Rattle.link_trials.proofs.hearing.feed_octets.Goals as goal

pub loop-taken-preserved : goal.loop-taken-preserved
loop-taken-preserved c =
    let i = c.loop-taken.invariant in
    let left = c.split_at.ensures in
    let piece = c.split_at-in-loop-taken.ensures in
    let fed = c.in_ok-taken.ensures in
    let n = c.in_ok-taken.field-0 in
    let short : n ≤ c.min.result = omega (arith, fed.within, piece.front_len) in
    record {
      within = omega (arith, short, left.back_len, c.min.ensures);
      stands = λ limits s stands.
          link_further limits c.feed.new.self s c.loop-taken.taken n c.min.result c.args.octets.now c.split_at.result.1.now c.split_at-in-loop-taken.result.0.now left.back piece.front short (fed.stands limits _ (i.stands limits s stands));
    }
