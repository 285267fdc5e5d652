use Rattle.std.proofs.Common.{slice_index, ◌+◌, arith}
use Rattle.digits.proofs.Decoding.{is-digit}
use Rattle.digits.proofs.Runs.{pair_read, read_on}
use Rattle.digits.proofs.reading.read_pairs.Goals as goal

pub loop-at-preserved : goal.loop-at-preserved
loop-at-preserved c =
    let text = c.args.text.now in
    let i = c.loop-at.invariant in
    let at = c.loop-at.at in
    record {
      from = omega (arith, i.from);
      within = omega (arith, c.loop-at-test.true);
      few = omega (arith, i.few, c.push_reserved.ensures.len);
      room = omega (arith, i.room, c.push_reserved.ensures.capacity);
      read = rw c.push_reserved.ensures.items (read_on text c.args.from at (at + 2) _ c.loop-at.octets.items _ i.read
          (pair_read text at c.loop-at.octets.items c.value_of-high.result c.value_of-low.result c.loop-at-test.true
          (is-digit (slice_index text at) c.value_of-high.result c.value_of-high.ensures c.if-high.false)
          (is-digit (slice_index text (at + 1)) c.value_of-low.result c.value_of-low.ensures c.if-low.false)));
    }
