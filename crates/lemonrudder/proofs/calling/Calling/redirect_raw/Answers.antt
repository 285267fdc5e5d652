use Rattle.std.proofs.Common.{◌≡◌, ◌∙◌, ℤ, FitsSigned, false, Err, Ok, inl, map, ap, sym, subst}
use Rattle.std.proofs.lemmas.Bool.{false≢true}
use Rattle.std.proofs.lemmas.Int.{to_z-of_z}
use Rattle.std.proofs.lemmas.Result.{err_from_is_err_and}
use Rattle.std.specs.Int.{w32, w64}
use Rattle.giop_core.specs.Items.{item_at}
use Rattle.ft_client.specs.Calling.{call_raw}
use Rattle.ft_client.specs.Messages.{is_oneway}
use Rattle.lemonrudder.specs.declared.calling.Calling.{Calling}
use Rattle.lemonrudder.specs.Naming.{wish_named}
use Rattle.lemonrudder.specs.RawCalls.{AreContexts, OnRedirectRaw, raw_in, raw_question_of}
use Rattle.lemonrudder.proofs.RawCalls.{has_reply, no_contexts, raw_is, raw_redirected, raw_unled, redirect_misasked}
use Rattle.lemonrudder.proofs.calling.Calling.redirect_raw.Goals as goal

pub returns-in_err-manner : goal.returns-in_err-manner
returns-in_err-manner c =
    let p = err_from_is_err_and c.from_residual.result c.from_residual.ensures.1 in
    let call : ◌≡◌ {A = ℤ} c.in-Ok.id c.args.call = c.in-Ok.ensures.1 ∙ to_z-of_z w64 c.args.call c.ranges.call in
    let fits : FitsSigned w32 c.in-Ok.id = subst (λ (z : ℤ). FitsSigned w32 z) (sym c.in-Ok.ensures.1) c.in-Ok.ensures.0 in
    redirect_misasked c.args.call (raw_question_of c.args.question.now) c.args.self.now (subst (λ (z : ℤ). FitsSigned w32 z) call fits) (λ may. false≢true (sym c.if-wishes_none.false ∙ c.wishes_none.ensures.1 may)) c.version.result c.version.ensures _ _ (inl c.in_err-manner.ensures) (p.1 ∙ ap Err p.2)

pub returns-in_err-contexts : goal.returns-in_err-contexts
returns-in_err-contexts c =
    let q = raw_question_of c.args.question.now in
    let p = err_from_is_err_and c.from_residual-in_err-contexts.result c.from_residual-in_err-contexts.ensures.1 in
    let call : ◌≡◌ {A = ℤ} c.in-Ok.id c.args.call = c.in-Ok.ensures.1 ∙ to_z-of_z w64 c.args.call c.ranges.call in
    let fits : FitsSigned w32 c.in-Ok.id = subst (λ (z : ℤ). FitsSigned w32 z) (sym c.in-Ok.ensures.1) c.in-Ok.ensures.0 in
    redirect_misasked c.args.call q c.args.self.now (subst (λ (z : ℤ). FitsSigned w32 z) call fits) (λ may. false≢true (sym c.if-wishes_none.false ∙ c.wishes_none.ensures.1 may)) c.version.result c.version.ensures _ _ (no_contexts c.version.result q c.in_ok-manner.manner _ c.in_ok-manner.ensures c.in_err-contexts.ensures) (p.1 ∙ ap Err p.2)

pub returns-in_err-redirect_raw : goal.returns-in_err-redirect_raw
returns-in_err-redirect_raw c =
    let q = raw_question_of c.args.question.now in
    let s = c.args.self.now in
    let e = c.in_err-redirect_raw.ensures in
    let m = c.in_ok-manner.manner in
    let p = err_from_is_err_and c.from_residual-in_err-redirect_raw.result c.from_residual-in_err-redirect_raw.ensures.1 in
    let call : ◌≡◌ {A = ℤ} c.in-Ok.id c.args.call = c.in-Ok.ensures.1 ∙ to_z-of_z w64 c.args.call c.ranges.call in
    let fits : FitsSigned w32 c.in-Ok.id = subst (λ (z : ℤ). FitsSigned w32 z) (sym c.in-Ok.ensures.1) c.in-Ok.ensures.0 in
    let read = subst (λ xs. AreContexts m.order (map item_at xs) q.contexts) (sym c.deref.ensures.value) c.in_ok-contexts.ensures in
    let are = raw_is c.version.result q m (map item_at c.deref.result.now) c.in_ok-manner.ensures read in
    let replied = has_reply m.wish (wish_named q.wish) c.in_ok-manner.ensures.1.1 (λ may. false≢true (sym c.if-wishes_none.false ∙ c.wishes_none.ensures.1 may)) in
    let t : Calling = record s { client = c.redirect_raw.new.self } in
    subst (λ (z : ℤ). OnRedirectRaw z q s t c.from_residual-in_err-redirect_raw.result) (to_z-of_z w32 c.in-Ok.id fits ∙ call)
    (raw_unled _ q s (subst (λ (z : ℤ). FitsSigned w32 z) (sym (to_z-of_z w32 c.in-Ok.id fits)) fits) (λ may. false≢true (sym c.if-wishes_none.false ∙ c.wishes_none.ensures.1 may)) c.version.result c.version.ensures (raw_in m (map item_at c.deref.result.now)) are replied (call_raw c.call-asked.result) c.call-asked.ensures.asked t c.in_err-redirect_raw.field-0.0 _ e.err
    (λ x st. record { client = e.same x.client st.client; placed = st.placed; due = st.due; last = st.last }) (p.1 ∙ ap Err p.2))

pub returns : goal.returns
returns c =
    let q = raw_question_of c.args.question.now in
    let s = c.args.self.now in
    let o = c.in_ok-redirect_raw.ensures in
    let m = c.in_ok-manner.manner in
    let call : ◌≡◌ {A = ℤ} c.in-Ok.id c.args.call = c.in-Ok.ensures.1 ∙ to_z-of_z w64 c.args.call c.ranges.call in
    let fits : FitsSigned w32 c.in-Ok.id = subst (λ (z : ℤ). FitsSigned w32 z) (sym c.in-Ok.ensures.1) c.in-Ok.ensures.0 in
    let read = subst (λ xs. AreContexts m.order (map item_at xs) q.contexts) (sym c.deref.ensures.value) c.in_ok-contexts.ensures in
    let are = raw_is c.version.result q m (map item_at c.deref.result.now) c.in_ok-manner.ensures read in
    let replied = has_reply m.wish (wish_named q.wish) c.in_ok-manner.ensures.1.1 (λ may. false≢true (sym c.if-wishes_none.false ∙ c.wishes_none.ensures.1 may)) in
    let t : Calling = record s { client = c.redirect_raw.new.self } in
    let wished = subst (λ w. is_oneway w ≡ false) (sym c.call-asked.ensures.wish) replied in
    subst (λ (z : ℤ). OnRedirectRaw z q s t (Ok 0)) (to_z-of_z w32 c.in-Ok.id fits ∙ call)
    (raw_redirected _ q s (subst (λ (z : ℤ). FitsSigned w32 z) (sym (to_z-of_z w32 c.in-Ok.id fits)) fits) (λ may. false≢true (sym c.if-wishes_none.false ∙ c.wishes_none.ensures.1 may)) c.version.result c.version.ensures (raw_in m (map item_at c.deref.result.now)) are replied (call_raw c.call-asked.result) c.call-asked.ensures.asked c.redirect_raw.new.self
    (record { fitting = o.fitting; same = o.stands; anew = o.anew wished }))
