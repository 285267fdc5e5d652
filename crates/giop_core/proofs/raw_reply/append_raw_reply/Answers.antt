use Rattle.std.proofs.Common.{◌≡◌, length, map, arith}
use Rattle.std.proofs.lemmas.Result.{err_from_is_err_and}
use Rattle.giop_core.specs.declared.header.MessageKind.TheVariants as kind
use Rattle.giop_core.specs.Items.{item_at}
use Rattle.giop_core.specs.Written.{octets_body, reply_fields}
use Rattle.giop_core.proofs.Whole.{body_behind, finished_whole, keeps_after, room_after, room_kept, starts_after, unbegun, writes_after}
use Rattle.giop_core.proofs.raw_reply.append_raw_reply.Goals as goal

pub returns-in_err-writer : goal.returns-in_err-writer
returns-in_err-writer c =
    let a = c.args in
    let p = err_from_is_err_and c.from_residual.result c.from_residual.ensures.1 in
    rw (p.1, p.2) (unbegun a.version kind.Reply a.order (reply_fields a.version a.request_id a.status (map item_at a.contexts.now)) (octets_body a.body.now) a.out.now.items c.begin_reply.new.out.items c.in_err-writer.field-0.0 c.in_err-writer.ensures)

pub put_octets-requires : goal.put_octets-requires
put_octets-requires c =
    let a = c.args in
    starts_after a.order (reply_fields a.version a.request_id a.status (map item_at a.contexts.now)) c.in_ok-writer.writer a.out.now.items c.begin_reply.new.out.items c.in_ok-writer.ensures c.len-start.result (omega (arith, c.len-start.ensures, a.out.now.ok.0))

pub returns-in_err-put_octets : goal.returns-in_err-put_octets
returns-in_err-put_octets c =
    let a = c.args in
    let p = err_from_is_err_and c.from_residual-in_err-put_octets.result c.from_residual-in_err-put_octets.ensures.1 in
    rw (p.1, p.2) (keeps_after a.order (reply_fields a.version a.request_id a.status (map item_at a.contexts.now)) c.in_ok-writer.writer a.out.now.items c.begin_reply.new.out.items c.in_ok-writer.ensures c.len-start.result (omega (arith, c.len-start.ensures, a.out.now.ok.0)) c.in_err-put_octets.ensures)

pub put_header-requires : goal.put_header-requires
put_header-requires c =
    let a = c.args in
    let room = room_after a.order (reply_fields a.version a.request_id a.status (map item_at a.contexts.now)) c.in_ok-writer.writer a.out.now.items c.begin_reply.new.out.items c.in_ok-writer.ensures c.len-start.result (omega (arith, c.len-start.ensures, a.out.now.ok.0)) in
    room_kept c.begin_reply.new.out.items c.put_octets.new.out.items _ c.in_ok-put_octets.ensures room

pub returns : goal.returns
returns c =
    let a = c.args in
    let fields = reply_fields a.version a.request_id a.status (map item_at a.contexts.now) in
    let body = octets_body a.body.now in
    let w = c.in_ok-writer.writer in
    let fielded = c.begin_reply.new.out.items in
    let begun = c.in_ok-writer.ensures in
    let same : c.len-start.result ≡ length a.out.now.items = omega (arith, c.len-start.ensures, a.out.now.ok.0) in
    let room = room_after a.order fields w a.out.now.items fielded begun c.len-start.result same in
    let is = writes_after a.order fields w a.out.now.items fielded begun c.len-start.result same in
    finished_whole a.version kind.Reply a.order fields body a.out.now.items fielded begun.0 c.len-start.result same c.put_header.result c.put_header.new.out.items
    (body_behind a.version kind.Reply a.order c.len-start.result body w fielded c.put_octets.new.out.items room is c.in_ok-put_octets.ensures c.put_header.result c.put_header.new.out.items c.put_header.ensures)
