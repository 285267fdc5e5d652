use Rattle.std.proofs.Common.{ℕ, ◌<◌, map, arith}
use Rattle.std.proofs.lemmas.Result.{err_from_is_err_and}
use Rattle.cdr_core.specs.Reading.{value_at}
use Rattle.cdr_core.specs.Value.{values}
use Rattle.cdr_core.proofs.Turns.{each_done, each_more, each_stops, values_push}
use Rattle.ior_core.specs.Grammar.{tagged}
use Rattle.ior_core.specs.View.{lent_value}
use Rattle.lemonrudder.proofs.contexts.each_of.Goals as goal

some-left : (n i : ℕ) → i < n → 0 < n
some-left n i less = omega (arith, less)

pub returns-in_err-one : goal.returns-in_err-one
returns-in_err-one c =
    let p = err_from_is_err_and c.from_residual.result c.from_residual.ensures.1 in
    let i = c.loop.invariant in
    let read = rw i.order at c.in_err-one.ensures in
    rw (p.1, p.2) (each_stops c.in_err-one.field-0.0 (value_at tagged c.args.cursor.now.order) (values (map lent_value c.loop.all.items)) c.args.count c.loop.counter c.loop.cursor.place c.loop.cursor.rest _ c.loop-test.true read i.whole, tt)

pub loop-preserved : goal.loop-preserved
loop-preserved c =
    let i = c.loop.invariant in
    let read = rw i.order at c.in_ok-one.ensures in
    let cursor = c.read_tagged.new.cursor in
    record {
      order = read.1;
      whole = rw (c.in_ok-push.ensures.items, values_push lent_value)
          (each_more (value_at tagged c.args.cursor.now.order) (values (map lent_value c.loop.all.items)) c.args.count c.loop.counter c.loop.cursor.place c.loop.cursor.rest (lent_value c.in_ok-one.one) cursor.place cursor.rest _ c.loop-test.true read.0 i.whole);
    }

pub returns : goal.returns
returns c =
    let i = c.loop.invariant in
    (each_done (value_at tagged c.args.cursor.now.order) (values (map lent_value c.loop.all.items)) c.args.count c.loop.counter c.loop.cursor.place c.loop.cursor.rest _ c.loop-test.false i.whole, i.order)

pub returns-in_err-push : goal.returns-in_err-push
returns-in_err-push c =
    let p = err_from_is_err_and c.from_residual-in_err-push.result c.from_residual-in_err-push.ensures.1 in
    rw (p.1, p.2) (tt, some-left c.args.count c.loop.counter c.loop-test.true)
