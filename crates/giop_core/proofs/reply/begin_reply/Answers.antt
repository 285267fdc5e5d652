use Rattle.std.proofs.Common.{map, refl}
use Rattle.std.proofs.lemmas.Result.{err_from_is_err_and}
use Rattle.cdr_core.proofs.Appending.{keeps_all, keeps_behind}
use Rattle.giop_core.specs.Items.{item_at, list_value}
use Rattle.giop_core.specs.Written.{reply_fields}
use Rattle.giop_core.proofs.Whole.{judged_begins, reply_contexts_long, starts_begun, whole_begun, writes_begun}
use Rattle.giop_core.proofs.reply.begin_reply.Goals as goal

pub returns-in_err-check_contexts : goal.returns-in_err-check_contexts
returns-in_err-check_contexts c =
    let a = c.args in
    let p = err_from_is_err_and c.from_residual.result c.from_residual.ensures.1 in
    rw (p.1, p.2) (judged_begins a.order (reply_fields a.version a.request_id a.status (map item_at a.contexts.now)) a.out.now.items (list_value (map item_at a.contexts.now)) c.in_err-check_contexts.field-0.0 (reply_contexts_long a.version a.request_id a.status (map item_at a.contexts.now)) c.in_err-check_contexts.ensures)

pub returns-in_err-writer : goal.returns-in_err-writer
returns-in_err-writer c =
    let p = err_from_is_err_and c.from_residual-in_err-writer.result c.from_residual-in_err-writer.ensures.1 in
    rw (p.1, p.2) (keeps_all c.args.out.now.items c.begin.new.out.items c.in_err-writer.ensures)

pub put_reply-requires-clause-start : goal.put_reply-requires-clause-start
put_reply-requires-clause-start c = starts_begun c.in_ok-writer.writer c.args.order c.args.out.now.items c.begin.new.out.items c.in_ok-writer.ensures.0 c.in_ok-writer.ensures.1

pub returns-in_err-put_reply : goal.returns-in_err-put_reply
returns-in_err-put_reply c =
    let p = err_from_is_err_and c.from_residual-in_err-put_reply.result c.from_residual-in_err-put_reply.ensures.1 in
    rw (p.1, p.2) (keeps_behind _ c.in_ok-writer.ensures.0 c.in_err-put_reply.ensures)

pub returns : goal.returns
returns c =
    let a = c.args in
    let w = c.in_ok-writer.writer in
    let begins = c.in_ok-writer.ensures.0 in
    let is = c.in_ok-writer.ensures.1 in
    (whole_begun a.order (reply_fields a.version a.request_id a.status (map item_at a.contexts.now)) w a.out.now.items c.begin.new.out.items c.put_reply.new.out.items begins is c.in_ok-put_reply.ensures, writes_begun w a.order a.out.now.items c.begin.new.out.items begins is _ refl)
