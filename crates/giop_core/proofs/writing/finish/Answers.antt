use Rattle.std.proofs.lemmas.Result.{err_from_is_err_and}
use Rattle.cdr_core.proofs.Appending.{keeps_both}
use Rattle.std.proofs.Common.{take}
use Rattle.cdr_core.specs.View.{values_of}
use Rattle.giop_core.proofs.Whole.{body_behind, front_kept}
use Rattle.giop_core.proofs.writing.finish.Goals as goal

pub returns-in_err-put_body : goal.returns-in_err-put_body
returns-in_err-put_body c =
    let p = err_from_is_err_and c.from_residual.result c.from_residual.ensures.1 in
    let old = c.args.out.now.items in
    rw (p.1, p.2) (keeps_both (take c.args.start old) old c.put_body.new.out.items (front_kept c.args.start old) c.in_err-put_body.ensures)

pub returns : goal.returns
returns c =
    let a = c.args in
    body_behind a.version a.kind a.order a.start (values_of a.body.now) a.writer.now a.out.now.items c.put_body.new.out.items c.requires.header c.requires.is c.in_ok-put_body.ensures c.put_header.result c.put_header.new.out.items c.put_header.ensures
