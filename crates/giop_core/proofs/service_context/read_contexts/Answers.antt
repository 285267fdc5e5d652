use Rattle.std.proofs.lemmas.Result.{err_from_is_err_and}
use Rattle.giop_core.proofs.Finding.{counted_on}
use Rattle.giop_core.proofs.Passing.{contexts_read, contexts_short, contexts_stop, items_all}
use Rattle.giop_core.proofs.service_context.read_contexts.Goals as goal

pub returns-in_err-left-clause-reads : goal.returns-in_err-left-clause-reads
returns-in_err-left-clause-reads c =
    let p = err_from_is_err_and c.from_residual.result c.from_residual.ensures.1 in
    let old = c.args.cursor.now in
    rw (p.1, p.2) (contexts_short c.in_err-left.field-0.0 old.order old.place old.rest c.in_err-left.ensures.0)

pub returns-in_err-pass-clause-reads : goal.returns-in_err-pass-clause-reads
returns-in_err-pass-clause-reads c =
    let p = err_from_is_err_and c.from_residual-in_err-pass.result c.from_residual-in_err-pass.ensures.1 in
    let old = c.args.cursor.now in
    let mid = c.count.new.self in
    let count = c.in_ok-left.ensures in
    rw (p.1, p.2) (contexts_stop old.order old.place old.rest c.in_ok-left.left mid.place mid.rest count.0 c.in_err-pass.field-0.0 (rw count.1 at c.in_err-pass.ensures))

pub returns-clause-reads : goal.returns-clause-reads
returns-clause-reads c =
    let old = c.args.cursor.now in
    let mid = c.count.new.self in
    let new = c.pass.new.cursor in
    let count = c.in_ok-left.ensures in
    let read = rw count.1 at c.in_ok-pass.ensures in
    rw (c.fork-first.ensures, count.1) (contexts_read old.order old.place old.rest c.in_ok-left.left mid.place mid.rest count.0 new.place new.rest read.0, read.1)

pub returns-clause-all : goal.returns-clause-all
returns-clause-all c =
    let mid = c.count.new.self in
    let new = c.pass.new.cursor in
    rw c.fork-first.ensures (items_all mid.order c.in_ok-left.left mid.place mid.rest new.place new.rest c.in_ok-pass.ensures.0)

pub returns-clause-first : goal.returns-clause-first
returns-clause-first c =
    let old = c.args.cursor.now in
    rw c.fork-first.ensures (counted_on old.order old.place old.rest c.in_ok-left.left c.count.new.self c.in_ok-left.ensures.0, c.in_ok-left.ensures.1)
