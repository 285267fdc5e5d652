use Rattle.std.proofs.Common.{◌≡◌, ◌∙◌, ℤ, FitsSigned, Err, Ok, ap, subst, sym}
use Rattle.std.proofs.lemmas.Int.{to_z-of_z}
use Rattle.std.proofs.lemmas.Result.{err_from_is_err_and}
use Rattle.std.specs.Int.{w32, w64}
use Rattle.lemonrudder.specs.declared.calling.Calling.{Calling}
use Rattle.lemonrudder.specs.Invokes.{question_of}
use Rattle.lemonrudder.specs.Resuming.{OnRedirect}
use Rattle.lemonrudder.proofs.Invoking.{asked_are, client_misled, client_redirects, client_unled}
use Rattle.lemonrudder.proofs.calling.Calling.redirect.Goals as goal

pub returns-in_err-arguments : goal.returns-in_err-arguments
returns-in_err-arguments c =
    let p = err_from_is_err_and c.from_residual.result c.from_residual.ensures.1 in
    let call : ◌≡◌ {A = ℤ} c.in-Ok.id c.args.call = c.in-Ok.ensures.1 ∙ to_z-of_z w64 c.args.call c.ranges.call in
    let fits : FitsSigned w32 c.in-Ok.id = subst (λ (z : ℤ). FitsSigned w32 z) (sym c.in-Ok.ensures.1) c.in-Ok.ensures.0 in
    client_misled c.args.call (question_of c.args.question.now) c.args.self.now _ _ (subst (λ (z : ℤ). FitsSigned w32 z) call fits) c.in_err-arguments.ensures.why (p.1 ∙ ap Err p.2)

pub returns-in_err-redirect : goal.returns-in_err-redirect
returns-in_err-redirect c =
    let q = question_of c.args.question.now in
    let s = c.args.self.now in
    let e = c.in_err-redirect.ensures in
    let p = err_from_is_err_and c.from_residual-in_err-redirect.result c.from_residual-in_err-redirect.ensures.1 in
    let call : ◌≡◌ {A = ℤ} c.in-Ok.id c.args.call = c.in-Ok.ensures.1 ∙ to_z-of_z w64 c.args.call c.ranges.call in
    let fits : FitsSigned w32 c.in-Ok.id = subst (λ (z : ℤ). FitsSigned w32 z) (sym c.in-Ok.ensures.1) c.in-Ok.ensures.0 in
    let are = asked_are q c.deref.result.now _ c.deref.ensures.value c.in_ok-arguments.ensures.asked in
    let t : Calling = record s { client = c.redirect.new.self } in
    subst (λ (z : ℤ). OnRedirect z q s t c.from_residual-in_err-redirect.result) (to_z-of_z w32 c.in-Ok.id fits ∙ call)
    (client_unled _ q s t c.deref.result.now c.in_err-redirect.field-0.0 _ (subst (λ (z : ℤ). FitsSigned w32 z) (sym (to_z-of_z w32 c.in-Ok.id fits)) fits) are e.err
    (λ x st. record { client = e.same x.client st.client; placed = st.placed; due = st.due; last = st.last }) (p.1 ∙ ap Err p.2))

pub returns : goal.returns
returns c =
    let q = question_of c.args.question.now in
    let s = c.args.self.now in
    let o = c.in_ok-redirect.ensures in
    let call : ◌≡◌ {A = ℤ} c.in-Ok.id c.args.call = c.in-Ok.ensures.1 ∙ to_z-of_z w64 c.args.call c.ranges.call in
    let fits : FitsSigned w32 c.in-Ok.id = subst (λ (z : ℤ). FitsSigned w32 z) (sym c.in-Ok.ensures.1) c.in-Ok.ensures.0 in
    let are = asked_are q c.deref.result.now _ c.deref.ensures.value c.in_ok-arguments.ensures.asked in
    let t : Calling = record s { client = c.redirect.new.self } in
    subst (λ (z : ℤ). OnRedirect z q s t (Ok 0)) (to_z-of_z w32 c.in-Ok.id fits ∙ call) (client_redirects _ q s c.redirect.new.self c.deref.result.now are o.fitting o.stands o.anew)
