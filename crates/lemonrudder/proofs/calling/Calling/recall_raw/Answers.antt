use Rattle.std.proofs.Common.{◌∙◌, Err, inl, map, ap, sym, subst}
use Rattle.std.proofs.lemmas.Int.{to_z-of_z}
use Rattle.std.proofs.lemmas.Result.{err_from_is_err_and}
use Rattle.std.specs.Int.{w64}
use Rattle.giop_core.specs.Items.{item_at}
use Rattle.ft_client.specs.Calling.{call_raw}
use Rattle.lemonrudder.specs.RawCalls.{AreContexts, raw_in, raw_question_of}
use Rattle.lemonrudder.proofs.Clients.{stands_unwritten}
use Rattle.lemonrudder.proofs.RawCalls.{no_contexts, raw_is, raw_left, raw_resumed, recall_misasked}
use Rattle.lemonrudder.proofs.Resuming.{numbered_as}
use Rattle.lemonrudder.proofs.calling.Calling.recall_raw.Goals as goal

pub returns-in_err-manner : goal.returns-in_err-manner
returns-in_err-manner c =
    let q = raw_question_of c.args.question.now in
    let s = c.args.self.now in
    let p = err_from_is_err_and c.from_residual-in_err-manner.result c.from_residual-in_err-manner.ensures.1 in
    recall_misasked c.args.now c.args.expiration q s s c.version.result c.version.ensures c.args.call c.in_ok-number.number _ _ (numbered_as c.args.call _ c.in_ok-number.number (to_z-of_z w64 c.args.call c.ranges.call) c.in_ok-number.ensures) (inl c.in_err-manner.ensures) (λ x st. st) (p.1 ∙ ap Err p.2)

pub returns-in_err-contexts : goal.returns-in_err-contexts
returns-in_err-contexts c =
    let q = raw_question_of c.args.question.now in
    let s = c.args.self.now in
    let p = err_from_is_err_and c.from_residual-in_err-contexts.result c.from_residual-in_err-contexts.ensures.1 in
    recall_misasked c.args.now c.args.expiration q s s c.version.result c.version.ensures c.args.call c.in_ok-number.number _ _ (numbered_as c.args.call _ c.in_ok-number.number (to_z-of_z w64 c.args.call c.ranges.call) c.in_ok-number.ensures) (no_contexts c.version.result q c.in_ok-manner.manner _ c.in_ok-manner.ensures c.in_err-contexts.ensures) (λ x st. st) (p.1 ∙ ap Err p.2)

pub returns-in_err-recall_raw : goal.returns-in_err-recall_raw
returns-in_err-recall_raw c =
    let q = raw_question_of c.args.question.now in
    let s = c.args.self.now in
    let e = c.in_err-recall_raw.ensures in
    let m = c.in_ok-manner.manner in
    let p = err_from_is_err_and c.from_residual-in_err-recall_raw.result c.from_residual-in_err-recall_raw.ensures.1 in
    let number = numbered_as c.args.call _ c.in_ok-number.number (to_z-of_z w64 c.args.call c.ranges.call) c.in_ok-number.ensures in
    let read = subst (λ xs. AreContexts m.order (map item_at xs) q.contexts) (sym c.deref.ensures.value) c.in_ok-contexts.ensures in
    let are = raw_is c.version.result q m (map item_at c.deref.result.now) c.in_ok-manner.ensures read in
    raw_left c.args.now c.args.expiration q s (record s { client = c.recall_raw.new.self; due = record s.due { octets = c.recall_raw.new.out } }) c.version.result c.version.ensures
    (raw_in m (map item_at c.deref.result.now)) are (call_raw c.call-call.result) c.call-call.ensures.asked c.args.call c.in_ok-number.number c.in_err-recall_raw.field-0.0 _ number e.err
    (λ x st. stands_unwritten s c.recall_raw.new.self c.recall_raw.new.out x x.client st (e.same x.client st.client) e.unwritten) (p.1 ∙ ap Err p.2)

pub returns : goal.returns
returns c =
    let q = raw_question_of c.args.question.now in
    let s = c.args.self.now in
    let o = c.in_ok-recall_raw.ensures in
    let m = c.in_ok-manner.manner in
    let number = numbered_as c.args.call _ c.in_ok-number.number (to_z-of_z w64 c.args.call c.ranges.call) c.in_ok-number.ensures in
    let read = subst (λ xs. AreContexts m.order (map item_at xs) q.contexts) (sym c.deref.ensures.value) c.in_ok-contexts.ensures in
    let are = raw_is c.version.result q m (map item_at c.deref.result.now) c.in_ok-manner.ensures read in
    raw_resumed c.args.now c.args.expiration q s c.version.result c.version.ensures (raw_in m (map item_at c.deref.result.now)) are (call_raw c.call-call.result) c.call-call.ensures.asked c.args.call c.in_ok-number.number c.recall_raw.new.self c.recall_raw.new.out number
    o.taken o.stands o.out
