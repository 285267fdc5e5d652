use Rattle.std.proofs.Common.{arith}
use Rattle.giop_core.specs.Items.{item_at}
use Rattle.giop_core.proofs.Nths.{nth_here, nth_later, nth_nothing, nth_nowhere}
use Rattle.giop_core.proofs.ior_view.item.Goals as goal

pub returns-in_default : goal.returns-in_default
returns-in_default c =
    let i = c.loop-at.invariant in
    let read = rw i.order at c.in_default.ensures in
    nth_nowhere c.args.cursor.now.order c.args.index c.args.left c.loop-at.at c.loop-at.cursor.place c.loop-at.cursor.rest _ i.so_far c.in_default.field-0 read

pub returns-then-at-index : goal.returns-then-at-index
returns-then-at-index c =
    let i = c.loop-at.invariant in
    let read = rw i.order at c.in-Ok.ensures in
    let new = c.read_tagged.new.cursor in
    nth_here c.args.cursor.now.order c.args.index c.args.left c.loop-at.at c.loop-at.cursor.place c.loop-at.cursor.rest _ i.so_far c.loop-at-test.true (item_at c.in-Ok.item) new.place new.rest read.0 c.if-at-index.true

pub loop-at-preserved : goal.loop-at-preserved
loop-at-preserved c =
    let i = c.loop-at.invariant in
    let read = rw i.order at c.in-Ok.ensures in
    let new = c.read_tagged.new.cursor in
    record {
      order = read.1;
      before = omega (arith, i.before, c.if-at-index.false);
      so_far = nth_later c.args.cursor.now.order c.args.index c.args.left c.loop-at.at c.loop-at.cursor.place c.loop-at.cursor.rest _ i.so_far c.loop-at-test.true (item_at c.in-Ok.item) new.place new.rest read.0 i.before c.if-at-index.false;
    }

pub returns : goal.returns
returns c = nth_nothing c.args.cursor.now.order c.args.index c.args.left c.loop-at.at c.loop-at.cursor.place c.loop-at.cursor.rest _ c.loop-at.invariant.so_far c.loop-at-test.false
