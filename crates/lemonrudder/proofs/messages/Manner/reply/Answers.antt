use Rattle.std.proofs.Common.{◌∙◌, ◌+◌, ap, subst, sym}
use Rattle.giop_core.specs.declared.header.MessageKind.TheVariants as kind
use Rattle.lemonrudder.specs.Writes.{reply}
use Rattle.lemonrudder.proofs.Sized.{reply_size}
use Rattle.lemonrudder.proofs.Written.{from_err, message_no_room, message_unwritten}
use Rattle.lemonrudder.proofs.messages.Manner.reply.Goals as goal

pub returns-in_err-check_room : goal.returns-in_err-check_room
returns-in_err-check_room c =
    let a = c.args in
    let is = reply_size a.self.version a.self.order a.request_id a.status a.body.now ∙ ap (λ n. 24 + n) (sym c.count_of.ensures) in
    subst (λ r. reply a.self.version a.self.order a.request_id a.status a.body.now a.room.now a.room.now r) (sym (from_err _ _ c.from_residual.ensures.1))
    (λ can. message_no_room a.self.version kind.Reply a.self.order _ a.room.now _ is _ c.in_err-check_room.ensures, λ cannot. absurd (cannot (c.has_reply_status.ensures.0 c.if-not-has_reply_status.false)))

pub returns-in_err-write_raw_reply : goal.returns-in_err-write_raw_reply
returns-in_err-write_raw_reply c =
    let a = c.args in
    let is = reply_size a.self.version a.self.order a.request_id a.status a.body.now ∙ ap (λ n. 24 + n) (sym c.count_of.ensures) in
    subst (λ r. reply a.self.version a.self.order a.request_id a.status a.body.now a.room.now a.room.now r) (sym (from_err _ _ c.from_residual-in_err-write_raw_reply.ensures.1))
    (λ can. message_unwritten a.self.version kind.Reply a.self.order _ a.room.now _ is _ _ _ c.in_ok-check_room.ensures c.in_err-write_raw_reply.ensures, λ cannot. absurd (cannot (c.has_reply_status.ensures.0 c.if-not-has_reply_status.false)))
