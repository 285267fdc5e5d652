use Rattle.std.proofs.Common.{map, arith}
use Rattle.std.proofs.lemmas.Result.{err_from_is_err_and}
use Rattle.cdr_core.specs.View.{values_of}
use Rattle.giop_core.specs.declared.header.MessageKind.TheVariants as kind
use Rattle.giop_core.specs.Items.{item_at}
use Rattle.giop_core.specs.Written.{reply_fields}
use Rattle.giop_core.proofs.Whole.{finished_whole, room_after, unbegun, writes_after}
use Rattle.giop_core.proofs.reply.append_reply.Goals as goal

pub returns-in_err-writer : goal.returns-in_err-writer
returns-in_err-writer c =
    let a = c.args in
    let p = err_from_is_err_and c.from_residual.result c.from_residual.ensures.1 in
    rw (p.1, p.2) (unbegun a.version kind.Reply a.order (reply_fields a.version a.request_id a.status (map item_at a.contexts.now)) (values_of a.body.now) a.out.now.items c.begin_reply.new.out.items c.in_err-writer.field-0.0 c.in_err-writer.ensures)

pub finish-requires-clause-header : goal.finish-requires-clause-header
finish-requires-clause-header c =
    let a = c.args in
    room_after a.order (reply_fields a.version a.request_id a.status (map item_at a.contexts.now)) c.in_ok-writer.writer a.out.now.items c.begin_reply.new.out.items c.in_ok-writer.ensures c.len-start.result (omega (arith, c.len-start.ensures, a.out.now.ok.0))

pub finish-requires-clause-is : goal.finish-requires-clause-is
finish-requires-clause-is c =
    let a = c.args in
    writes_after a.order (reply_fields a.version a.request_id a.status (map item_at a.contexts.now)) c.in_ok-writer.writer a.out.now.items c.begin_reply.new.out.items c.in_ok-writer.ensures c.len-start.result (omega (arith, c.len-start.ensures, a.out.now.ok.0))

pub returns : goal.returns
returns c =
    let a = c.args in
    finished_whole a.version kind.Reply a.order (reply_fields a.version a.request_id a.status (map item_at a.contexts.now)) (values_of a.body.now) a.out.now.items c.begin_reply.new.out.items c.in_ok-writer.ensures.0 c.len-start.result (omega (arith, c.len-start.ensures, a.out.now.ok.0)) c.finish.result c.finish.new.out.items c.finish.ensures
