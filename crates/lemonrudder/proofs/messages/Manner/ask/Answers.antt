use Rattle.std.proofs.Common.{◌∙◌, Err, ap, map, refl, subst, sym}
use Rattle.cdr_core.specs.View.{value_of, values_of}
use Rattle.cdr_core.specs.Writing.{AreWritable}
use Rattle.lemonrudder.specs.Sizes.{body_end}
use Rattle.lemonrudder.specs.Writes.{asked, asked_fields, said_by}
use Rattle.lemonrudder.proofs.Idling.{not_so}
use Rattle.lemonrudder.proofs.Sized.{request_long}
use Rattle.lemonrudder.proofs.Written.{ask_misplaced, ask_no_memory, ask_no_room, ask_unwritten, asks_whole, from_err, read_writable, stands_there}
use Rattle.lemonrudder.proofs.messages.Manner.ask.Goals as goal

pub returns-then-not-is_counted : goal.returns-then-not-is_counted
returns-then-not-is_counted c =
    let a = c.args.asking.now in
    (request_long c.args.self.version c.args.self.order a.request_id c.args.wish a.key.now a.operation.now a.context_id a.context.now a.body.now (λ few. not_so c.if-not-is_counted.true (c.is_counted.ensures.1 few)), refl)

pub returns-then-not-can_stand : goal.returns-then-not-can_stand
returns-then-not-can_stand c =
    ask_misplaced c.args.self.version c.args.self.order c.args.wish c.args.asking.now c.fields_end-place.result 0 c.args.room.now c.fields_end-place.ensures.is (λ can. not_so c.if-not-can_stand.true (c.can_stand.ensures.1 can))

pub returns-in_err-check_room : goal.returns-in_err-check_room
returns-in_err-check_room c =
    let a = c.args in
    subst (λ r. asked a.self.version a.self.order a.wish (said_by a.asking.now) a.room.now a.room.now r) (sym (from_err _ _ c.from_residual.ensures.1))
    (ask_no_room a.self.version a.self.order a.wish a.asking.now c.fields_end-place.result c.body_end-size.result a.room.now c.fields_end-place.ensures.is _ (c.body_end-size.ensures ∙ ap (body_end c.args.self.version c.fields_end-place.result) c.count_of.ensures) (c.can_stand.ensures.0 c.if-not-can_stand.false) c.in_err-check_room.ensures)

pub returns-in_err-body : goal.returns-in_err-body
returns-in_err-body c =
    let a = c.args in
    subst (λ r. asked a.self.version a.self.order a.wish (said_by a.asking.now) a.room.now a.room.now r) (sym (from_err _ _ c.from_residual-in_err-body.ensures.1 ∙ ap Err c.in_err-body.ensures))
    (ask_no_memory a.self.version a.self.order a.wish a.asking.now c.fields_end-place.result c.body_end-size.result a.room.now c.fields_end-place.ensures.is (c.body_end-size.ensures ∙ ap (body_end c.args.self.version c.fields_end-place.result) c.count_of.ensures) (c.can_stand.ensures.0 c.if-not-can_stand.false) c.in_ok-check_room.ensures)

pub append-requires-clause-writable : goal.append-requires-clause-writable
append-requires-clause-writable c = subst (λ vs. AreWritable (values_of vs)) (sym c.deref.ensures.value) (read_writable _ _ c.in_ok-body.ensures)

pub returns-in_err-append : goal.returns-in_err-append
returns-in_err-append c =
    let a = c.args in
    subst (λ r. asked a.self.version a.self.order a.wish (said_by a.asking.now) a.room.now a.room.now r) (sym (from_err _ _ c.from_residual-in_err-append.ensures.1))
    (ask_unwritten a.self.version a.self.order a.wish a.asking.now c.fields_end-place.result c.body_end-size.result a.room.now c.fields_end-place.ensures.is _ _ _ _ (ap (map value_of) c.deref.ensures.value ∙ c.in_ok-body.ensures) (c.body_end-size.ensures ∙ ap (body_end c.args.self.version c.fields_end-place.result) c.count_of.ensures) (c.can_stand.ensures.0 c.if-not-can_stand.false) c.in_ok-check_room.ensures c.in_err-append.ensures)

pub returns : goal.returns
returns c =
    let a = c.args in
    let q = said_by a.asking.now in
    asks_whole a.self.version a.self.order (asked_fields a.self.version a.wish q) _ q.body _ _ _ _ _ _ _ (ap (map value_of) c.deref.ensures.value ∙ c.in_ok-body.ensures) (stands_there a.self.version a.self.order a.wish a.asking.now c.fields_end-place.result 0 a.room.now c.fields_end-place.ensures.is (c.can_stand.ensures.0 c.if-not-can_stand.false)) c.new-out.ensures.items c.in_ok-append.ensures c.deref-2.ensures.value c.fitted.ensures.fits c.fitted.ensures.room
