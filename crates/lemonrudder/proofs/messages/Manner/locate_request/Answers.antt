use Rattle.std.proofs.Common.{◌∙◌, ap, subst, sym}
use Rattle.giop_core.specs.declared.header.MessageKind.TheVariants as kind
use Rattle.lemonrudder.specs.Sizes.{locate_end}
use Rattle.lemonrudder.specs.Writes.{locate_request}
use Rattle.lemonrudder.proofs.Sized.{locate_size}
use Rattle.lemonrudder.proofs.Written.{from_err, message_no_room, message_unwritten}
use Rattle.lemonrudder.proofs.messages.Manner.locate_request.Goals as goal

pub returns-in_err-check_room : goal.returns-in_err-check_room
returns-in_err-check_room c =
    let a = c.args in
    let is = locate_size a.self.version a.self.order a.request_id a.key.now ∙ ap (locate_end a.self.version) (sym c.count_of.ensures) ∙ sym c.locate_end.ensures in
    subst (λ r. locate_request a.self.version a.self.order a.request_id a.key.now a.room.now a.room.now r) (sym (from_err _ _ c.from_residual.ensures.1))
    (message_no_room a.self.version kind.LocateRequest a.self.order _ a.room.now _ is _ c.in_err-check_room.ensures)

pub returns-in_err-write_locate_request : goal.returns-in_err-write_locate_request
returns-in_err-write_locate_request c =
    let a = c.args in
    let is = locate_size a.self.version a.self.order a.request_id a.key.now ∙ ap (locate_end a.self.version) (sym c.count_of.ensures) ∙ sym c.locate_end.ensures in
    subst (λ r. locate_request a.self.version a.self.order a.request_id a.key.now a.room.now a.room.now r) (sym (from_err _ _ c.from_residual-in_err-write_locate_request.ensures.1))
    (message_unwritten a.self.version kind.LocateRequest a.self.order _ a.room.now _ is _ _ _ c.in_ok-check_room.ensures c.in_err-write_locate_request.ensures)
