use Rattle.std.proofs.lemmas.Result.{err_from_is_err_and}
use Rattle.cdr_core.specs.Reading.{value_at}
use Rattle.cdr_core.proofs.Turns.{pass_done, pass_more, pass_stops}
use Rattle.ior_core.specs.Grammar.{tagged}
use Rattle.giop_core.specs.Private.{lent_value}
use Rattle.giop_core.proofs.service_context.pass.Goals as goal

pub returns-in_err-read_tagged : goal.returns-in_err-read_tagged
returns-in_err-read_tagged c =
    let p = err_from_is_err_and c.from_residual.result c.from_residual.ensures.1 in
    let i = c.loop.invariant in
    let read = rw i.order at c.in_err-read_tagged.ensures in
    rw (p.1, p.2) (pass_stops c.in_err-read_tagged.field-0.0 (value_at tagged c.args.cursor.now.order) c.args.count c.loop.counter c.loop.cursor.place c.loop.cursor.rest _ c.loop-test.true read i.whole)

pub loop-preserved : goal.loop-preserved
loop-preserved c =
    let i = c.loop.invariant in
    let read = rw i.order at c.in_ok-read_tagged.ensures in
    let cursor = c.read_tagged.new.cursor in
    record {
      order = read.1;
      whole = pass_more (value_at tagged c.args.cursor.now.order) c.args.count c.loop.counter c.loop.cursor.place c.loop.cursor.rest (lent_value c.in_ok-read_tagged.field-0) cursor.place cursor.rest _ c.loop-test.true read.0 i.whole;
    }

pub returns : goal.returns
returns c =
    let i = c.loop.invariant in
    (pass_done (value_at tagged c.args.cursor.now.order) c.args.count c.loop.counter c.loop.cursor.place c.loop.cursor.rest _ c.loop-test.false i.whole, i.order)
