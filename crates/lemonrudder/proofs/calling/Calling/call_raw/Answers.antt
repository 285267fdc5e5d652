use Rattle.std.proofs.Common.{◌≡◌, ◌∙◌, ℤ, Err, inl, map, ap, sym, subst, arith, rules}
use Rattle.std.proofs.lemmas.Int.{ints}
use Rattle.std.proofs.lemmas.Result.{err_from_is_err_and}
use Rattle.std.specs.Prelude.{unsigned_abs}
use mir.Syntax.{w32}
use mir.Val.{of_z, to_z}
use Rattle.giop_core.specs.Items.{item_at}
use Rattle.ft_client.specs.Calling.{call_raw}
use Rattle.lemonrudder.specs.RawCalls.{AreContexts, raw_in, raw_question_of}
use Rattle.lemonrudder.proofs.Clients.{stands_unwritten}
use Rattle.lemonrudder.proofs.RawCalls.{call_misasked, no_contexts, raw_is, raw_refused, raw_taken}
use Rattle.lemonrudder.proofs.calling.Calling.call_raw.Goals as goal

pub returns-in_err-manner : goal.returns-in_err-manner
returns-in_err-manner c =
    let q = raw_question_of c.args.question.now in
    let s = c.args.self.now in
    let p = err_from_is_err_and c.from_residual.result c.from_residual.ensures.1 in
    call_misasked c.args.now c.args.expiration q s s c.version.result c.version.ensures _ _ (inl c.in_err-manner.ensures) (λ x st. st) (p.1 ∙ ap Err p.2)

pub returns-in_err-contexts : goal.returns-in_err-contexts
returns-in_err-contexts c =
    let q = raw_question_of c.args.question.now in
    let s = c.args.self.now in
    let p = err_from_is_err_and c.from_residual-in_err-contexts.result c.from_residual-in_err-contexts.ensures.1 in
    call_misasked c.args.now c.args.expiration q s s c.version.result c.version.ensures _ _ (no_contexts c.version.result q c.in_ok-manner.manner _ c.in_ok-manner.ensures c.in_err-contexts.ensures) (λ x st. st) (p.1 ∙ ap Err p.2)

pub returns-in_err-number : goal.returns-in_err-number
returns-in_err-number c =
    let q = raw_question_of c.args.question.now in
    let s = c.args.self.now in
    let e = c.in_err-number.ensures in
    let m = c.in_ok-manner.manner in
    let p = err_from_is_err_and c.from_residual-in_err-number.result c.from_residual-in_err-number.ensures.1 in
    let read = subst (λ xs. AreContexts m.order (map item_at xs) q.contexts) (sym c.deref.ensures.value) c.in_ok-contexts.ensures in
    let are = raw_is c.version.result q m (map item_at c.deref.result.now) c.in_ok-manner.ensures read in
    raw_refused c.args.now c.args.expiration q s (record s { client = c.call_raw.new.self; due = record s.due { octets = c.call_raw.new.out } }) c.version.result c.version.ensures
    (raw_in m (map item_at c.deref.result.now)) are (call_raw c.call-call.result) c.call-call.ensures.asked c.in_err-number.field-0.0 _ e.err
    (λ x st. stands_unwritten s c.call_raw.new.self c.call_raw.new.out x x.client st (e.same x.client st.client) e.unwritten) (p.1 ∙ ap Err p.2)

pub returns : goal.returns
returns c =
    let q = raw_question_of c.args.question.now in
    let s = c.args.self.now in
    let o = c.in_ok-number.ensures in
    let m = c.in_ok-manner.manner in
    let read = subst (λ xs. AreContexts m.order (map item_at xs) q.contexts) (sym c.deref.ensures.value) c.in_ok-contexts.ensures in
    let are = raw_is c.version.result q m (map item_at c.deref.result.now) c.in_ok-manner.ensures read in
    let same : to_z w32 (of_z w32 c.in_ok-number.number) ≡ c.in_ok-number.number = first_of (search rules, omega (arith, ints)) in
    let number : c.unsigned_abs.result ≡ unsigned_abs c.in_ok-number.number = c.unsigned_abs.ensures.value ∙ ap (λ (z : ℤ). unsigned_abs z) same in
    raw_taken c.args.now c.args.expiration q s c.version.result c.version.ensures (raw_in m (map item_at c.deref.result.now)) are (call_raw c.call-call.result) c.call-call.ensures.asked c.call_raw.new.self c.call_raw.new.out _
    (λ n st. c.from.ensures ∙ number ∙ ap (λ (z : ℤ). unsigned_abs z) (o.number n st)) o.taken o.stands o.out
