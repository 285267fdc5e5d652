use Rattle.std.proofs.Common.{◌≡◌, ◌+◌, ◌-◌, suc, sym, ◌∙◌, arith}
use Rattle.giop_frames.proofs.Ids.{passes-next, went}
use Rattle.giop_frames.proofs.naming.pass.Goals as goal

pub loop-passed-preserved : goal.loop-passed-preserved
loop-passed-preserved c =
    let i = c.loop-passed.invariant in
    let old = c.loop-passed.cursor in
    let new = c.next_context.new.cursor in
    let w = went c.next_context.result old new (sym c.if-is_err.ensures.value) c.next_context.ensures in
    let one : c.args.count - c.loop-passed.passed ≡ suc (c.args.count - (c.loop-passed.passed + 1)) = omega (arith, c.loop-passed-test.true) in
    record {
      order = w.2 ∙ i.order;
      passes = λ message here.
          passes-next c.read_is_spelled.ensures c.spelled_is_read.ensures c.args.cursor.now old new w.0 c.args.count (c.args.count - c.loop-passed.passed) (c.args.count - (c.loop-passed.passed + 1)) message i.order one w.1 (i.passes message here);
    }
