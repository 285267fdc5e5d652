use Rattle.std.proofs.Common.{ℕ, List, ◌∙◌}
use Rattle.std.proofs.lemmas.Result.{err_from_is_err_and}
use Rattle.cdr_core.proofs.Appending.{begins, keeps_both, keeps_more}
use Rattle.cdr_core.specs.Writing.{octets_of, place_in}
use Rattle.giop_core.specs.Items.{tagged_value}
use Rattle.giop_core.proofs.ItemsPut.{put_last, put_next, put_stopped, writable_next}
use Rattle.giop_core.proofs.target_address.put_items.Goals as goal

pub returns-in_default : goal.returns-in_default
returns-in_default c =
    let i = c.loop.invariant in
    let read = rw i.order at c.in_default.ensures in
    put_stopped c.args.cursor.now.order c.args.left c.loop.counter c.loop.cursor.place c.loop.cursor.rest c.args.writer.now c.loop.out.items c.in_default.field-0 read ∙ i.whole

pub returns-in_err-put_tagged : goal.returns-in_err-put_tagged
returns-in_err-put_tagged c =
    let p = err_from_is_err_and c.from_residual.result c.from_residual.ensures.1 in
    rw (p.1) (keeps_both c.args.out.now.items c.loop.out.items c.put_tagged.new.out.items c.loop.invariant.keeps c.in_err-put_tagged.ensures)

pub loop-preserved : goal.loop-preserved
loop-preserved c =
    let i = c.loop.invariant in
    let w = c.args.writer.now in
    let order = c.args.cursor.now.order in
    let read = rw i.order at c.in-Ok.ensures in
    let x : ℕ × List ℕ = (c.in-Ok.tag, c.in-Ok.octets.now) in
    let new = c.read_tagged.new.cursor in
    let le = begins w.start c.args.out.now.items c.loop.out.items c.requires.start i.keeps in
    let put = put_next order c.args.left c.loop.counter c.loop.cursor.place c.loop.cursor.rest w c.loop.out.items c.loop-test.true x new.place new.rest read.0 c.put_tagged.new.out.items le c.in_ok-put_tagged.ensures in
    record {
      order = read.1;
      keeps = keeps_more c.args.out.now.items c.loop.out.items c.put_tagged.new.out.items (octets_of w.order (tagged_value x) (place_in w c.loop.out.items)) i.keeps c.in_ok-put_tagged.ensures;
      writable = (writable_next order c.args.left c.loop.counter c.loop.cursor.place c.loop.cursor.rest w c.loop.out.items c.loop-test.true x new.place new.rest read.0 i.writable).1;
      whole = put ∙ i.whole;
    }

pub put_tagged-requires-clause-long : goal.put_tagged-requires-clause-long
put_tagged-requires-clause-long c =
    let i = c.loop.invariant in
    let read = rw i.order at c.in-Ok.ensures in
    let new = c.read_tagged.new.cursor in
    (writable_next c.args.cursor.now.order c.args.left c.loop.counter c.loop.cursor.place c.loop.cursor.rest c.args.writer.now c.loop.out.items c.loop-test.true (c.in-Ok.tag, c.in-Ok.octets.now) new.place new.rest read.0 i.writable).0

pub returns : goal.returns
returns c =
    let i = c.loop.invariant in
    put_last c.args.cursor.now.order c.args.left c.loop.counter c.loop.cursor.place c.loop.cursor.rest c.args.writer.now c.loop.out.items c.loop-test.false ∙ i.whole
