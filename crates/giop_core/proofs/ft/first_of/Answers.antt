use Rattle.giop_core.proofs.Firsts.{found_here, found_later, found_nothing, found_nowhere}
use Rattle.giop_core.proofs.ft.first_of.Goals as goal

pub returns-in_default : goal.returns-in_default
returns-in_default c =
    let i = c.loop.invariant in
    let read = rw i.order at c.in_default.ensures in
    found_nowhere c.args.cursor.now.order c.args.id c.args.left c.loop.counter c.loop.cursor.place c.loop.cursor.rest _ i.so_far c.in_default.field-0 read

pub returns-then-tag-id : goal.returns-then-tag-id
returns-then-tag-id c =
    let i = c.loop.invariant in
    let read = rw i.order at c.in-Ok.ensures in
    let new = c.read_tagged.new.cursor in
    found_here c.args.cursor.now.order c.args.id c.args.left c.loop.counter c.loop.cursor.place c.loop.cursor.rest _ i.so_far c.loop-test.true (c.in-Ok.tag, c.in-Ok.octets.now) new.place new.rest read.0 c.if-tag-id.true

pub loop-preserved : goal.loop-preserved
loop-preserved c =
    let i = c.loop.invariant in
    let read = rw i.order at c.in-Ok.ensures in
    let new = c.read_tagged.new.cursor in
    record {
      order = read.1;
      so_far = found_later c.args.cursor.now.order c.args.id c.args.left c.loop.counter c.loop.cursor.place c.loop.cursor.rest _ i.so_far c.loop-test.true (c.in-Ok.tag, c.in-Ok.octets.now) new.place new.rest read.0 c.if-tag-id.false;
    }

pub returns : goal.returns
returns c = found_nothing c.args.cursor.now.order c.args.id c.args.left c.loop.counter c.loop.cursor.place c.loop.cursor.rest _ c.loop.invariant.so_far c.loop-test.false
