use Rattle.std.proofs.Common.{arith}
use Rattle.std.proofs.lemmas.Result.{err_from_is_err_and}
use Rattle.cdr_core.proofs.Appending.{keeps_all, keeps_behind}
use Rattle.cdr_core.specs.View.{values_of}
use Rattle.giop_core.specs.declared.header.MessageKind.TheVariants as kind
use Rattle.giop_core.specs.Written.{locate_reply_fields}
use Rattle.giop_core.proofs.Whole.{finished, room_begun, starts_begun, writes_begun}
use Rattle.giop_core.proofs.locate.append_locate_reply.Goals as goal

pub returns-in_err-writer : goal.returns-in_err-writer
returns-in_err-writer c =
    let p = err_from_is_err_and c.from_residual.result c.from_residual.ensures.1 in
    rw (p.1, p.2) (keeps_all c.args.out.now.items c.begin.new.out.items c.in_err-writer.ensures)

pub put_locate_reply-requires : goal.put_locate_reply-requires
put_locate_reply-requires c = starts_begun c.in_ok-writer.writer c.args.order c.args.out.now.items c.begin.new.out.items c.in_ok-writer.ensures.0 c.in_ok-writer.ensures.1

pub returns-in_err-put_locate_reply : goal.returns-in_err-put_locate_reply
returns-in_err-put_locate_reply c =
    let p = err_from_is_err_and c.from_residual-in_err-put_locate_reply.result c.from_residual-in_err-put_locate_reply.ensures.1 in
    rw (p.1, p.2) (keeps_behind _ c.in_ok-writer.ensures.0 c.in_err-put_locate_reply.ensures)

pub finish-requires-clause-header : goal.finish-requires-clause-header
finish-requires-clause-header c = room_begun c.in_ok-writer.writer c.args.order c.args.out.now.items c.begin.new.out.items c.in_ok-writer.ensures.0 c.in_ok-writer.ensures.1 c.len-start.result (omega (arith, c.len-start.ensures, c.args.out.now.ok.0)) _ c.in_ok-put_locate_reply.ensures

pub finish-requires-clause-is : goal.finish-requires-clause-is
finish-requires-clause-is c = writes_begun c.in_ok-writer.writer c.args.order c.args.out.now.items c.begin.new.out.items c.in_ok-writer.ensures.0 c.in_ok-writer.ensures.1 c.len-start.result (omega (arith, c.len-start.ensures, c.args.out.now.ok.0))

pub returns : goal.returns
returns c =
    let a = c.args in
    finished a.version kind.LocateReply a.order (locate_reply_fields a.request_id a.status) (values_of a.body.now) c.in_ok-writer.writer a.out.now.items c.begin.new.out.items c.put_locate_reply.new.out.items c.in_ok-writer.ensures.0 c.in_ok-writer.ensures.1 c.in_ok-put_locate_reply.ensures c.len-start.result (omega (arith, c.len-start.ensures, a.out.now.ok.0)) c.finish.result c.finish.new.out.items c.finish.ensures
