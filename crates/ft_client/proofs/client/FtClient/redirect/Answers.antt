use Rattle.std.proofs.Common.{◌≡◌, List, map, true, slice_set, w32, subst, refl, sym, ap, ◌∙◌}
use Rattle.std.proofs.lemmas.Int.{to_z-of_z}
use Rattle.std.proofs.lemmas.Option.{same_Some}
use Rattle.std.proofs.lemmas.Result.{err_from_is_err_and}
use Rattle.cdr_core.specs.View.{values_of}
use Rattle.ft_client.specs.declared.pending.Pending.{Pending as CodePending}
use Rattle.ft_client.specs.Calling.{IsRedirectError, call_of, is_led}
use Rattle.ft_client.specs.Clients.{Pending, find_pending, fits}
use Rattle.ft_client.specs.Keeping.{Kept, kept_by, kept_of}
use Rattle.ft_client.specs.Messages.{typed}
use Rattle.ft_client.specs.Private.{IsLedAt}
use Rattle.ft_client.specs.Redirections.{in_place_of}
use Rattle.ft_client.proofs.Anew.{anew_kept, anew_stands}
use Rattle.ft_client.proofs.Models.{written_over}
use Rattle.ft_client.proofs.Placing.{fits_is, unfit_is}
use Rattle.ft_client.proofs.Redirecting.{redirected_is, redirected_kept, redirected_stands, write_error_led}
use Rattle.ft_client.proofs.client.FtClient.redirect.Goals as goal

abbrev each : List CodePending → List Kept
each ps = map kept_by ps

pub returns-in_err-place-clause-err : goal.returns-in_err-place-clause-err
returns-in_err-place-clause-err c =
    let a = c.args in
    let p = err_from_is_err_and c.from_residual.result c.from_residual.ensures.1 in
    rw (p.1, p.2) (λ m st. let h = c.in_err-place.ensures.err m st in subst (λ e. IsRedirectError a.id (call_of a.object_key.now a.operation.now a.arguments.now) m e) (sym h.0) (ap (λ z. is_led (find_pending z m.pending)) (sym (to_z-of_z w32 a.id c.ranges.id)) ∙ h.1))

pub returns-in_err-call-clause-err : goal.returns-in_err-call-clause-err
returns-in_err-call-clause-err c =
    let a = c.args in
    let s = a.self.now in
    let d = c.index-one.result.now in
    let p = err_from_is_err_and c.from_residual-in_err-call.result c.from_residual-in_err-call.ensures.1 in
    rw (p.1, p.2) (λ m st.
    let f = subst (λ z. IsLedAt z c.args.self.now m c.in_ok-place.place c.in_ok-place.number) (to_z-of_z w32 c.args.id c.ranges.id) (c.in_ok-place.ensures.found m st.fields) in
    let ei = c.as_slice-client_id.ensures.value ∙ st.fields.client_id in
    let asked = call_of a.object_key.now a.operation.now a.arguments.now in
    let was : kept_by d ≡ kept_of m.version m.client_id f.call = ap kept_by c.index-one.ensures ∙ f.kept d in
    let expiration : d.expiration ≡ f.call.call.expiration = ap (λ (k : Kept). k.expiration) was in
    write_error_led a.id asked m c.in_err-call.field-0.0 (λ long. (
      f.call,
      f.find,
      f.led,
      (λ i. fits (sym f.numbered i) m (asked (sym expiration i))) ∙ unfit_is (asked d.expiration) m s.version c.as_slice-client_id.result.now c.in_ok-place.number st.fields.version ei (c.in_err-call.ensures long),
    )) (ap is_led f.find ∙ f.led))

pub returns-clause-fitting : goal.returns-clause-fitting
returns-clause-fitting c = λ m st.
    let a = c.args in
    let d = c.index-one.result.now in
    let f = subst (λ z. IsLedAt z c.args.self.now m c.in_ok-place.place c.in_ok-place.number) (to_z-of_z w32 c.args.id c.ranges.id) (c.in_ok-place.ensures.found m st.fields) in
    let ei = c.as_slice-client_id.ensures.value ∙ st.fields.client_id in
    let asked = call_of a.object_key.now a.operation.now a.arguments.now in
    let was : kept_by d ≡ kept_of m.version m.client_id f.call = ap kept_by c.index-one.ensures ∙ f.kept d in
    let expiration : d.expiration ≡ f.call.call.expiration = ap (λ (k : Kept). k.expiration) was in (
      f.call,
      f.find,
      f.led,
      (λ i. fits (sym f.numbered i) m (asked (sym expiration i))) ∙ fits_is (asked d.expiration) m a.self.now.version c.as_slice-client_id.result.now c.in_ok-place.number st.fields.version ei c.in_ok-call.ensures.0,
    )

pub returns-clause-stands : goal.returns-clause-stands
returns-clause-stands c = λ m p st find form operation arguments.
    let a = c.args in
    let s = a.self.now in
    let key = a.object_key.now in
    let vs = values_of a.arguments.now in
    let d = c.index-one.result.now in
    let f = subst (λ z. IsLedAt z c.args.self.now m c.in_ok-place.place c.in_ok-place.number) (to_z-of_z w32 c.args.id c.ranges.id) (c.in_ok-place.ensures.found m st.fields) in
    let one : f.call ≡ p = same_Some f.call p (sym f.find ∙ find) in
    let ef = ap (λ (q : Pending). q.call.form) one ∙ form in
    let eo = ap (λ (q : Pending). q.call.operation) one ∙ operation in
    let ea = ap (λ (q : Pending). q.call.arguments) one ∙ arguments in
    let ei = c.as_slice-client_id.ensures.value ∙ st.fields.client_id in
    let asked = call_of key a.operation.now a.arguments.now in
    let was : kept_by d ≡ kept_of m.version m.client_id f.call = ap kept_by c.index-one.ensures ∙ f.kept d in
    let expiration : d.expiration ≡ f.call.call.expiration = ap (λ (k : Kept). k.expiration) was in
    let short : fits f.call.id m (asked f.call.call.expiration) ≡ true = (λ i. fits (sym f.numbered i) m (asked (sym expiration i))) ∙ fits_is (asked d.expiration) m s.version c.as_slice-client_id.result.now c.in_ok-place.number st.fields.version ei c.in_ok-call.ensures.0 in
    let k = record (kept_by c.in_ok-call.call) { sent = d.sent } in
    let kept = redirected_kept a.id s m c.in_ok-place.place d k s.version c.as_slice-client_id.result.now c.in_ok-place.number key a.operation.now vs typed f was st.fields.version ei ef eo ea (ap (λ (x : Kept). record x { sent = d.sent }) c.in_ok-call.ensures.1) in
    redirected_stands s _ m a.id key (find_pending a.id m.pending) (redirected_is m key a.operation.now vs typed f.call (find_pending a.id m.pending) f.find ef eo ea f.led refl short) st refl refl refl refl refl refl refl refl
    (ap each (written_over c.put_for.new.pending s.pending.items _ (c.put_for.ensures.len ∙ c.deref_mut.ensures.len)) ∙ c.put_for.ensures.kept ∙ ap (λ (ps : List CodePending). slice_set (each ps) c.in_ok-place.place k) c.deref_mut.ensures.value ∙ kept)

pub returns-clause-anew : goal.returns-clause-anew
returns-clause-anew c = λ m st.
    let a = c.args in
    let s = a.self.now in
    let key = a.object_key.now in
    let vs = values_of a.arguments.now in
    let d = c.index-one.result.now in
    let f = subst (λ z. IsLedAt z c.args.self.now m c.in_ok-place.place c.in_ok-place.number) (to_z-of_z w32 c.args.id c.ranges.id) (c.in_ok-place.ensures.found m st.fields) in
    let ei = c.as_slice-client_id.ensures.value ∙ st.fields.client_id in
    let was : kept_by d ≡ kept_of m.version m.client_id f.call = ap kept_by c.index-one.ensures ∙ f.kept d in
    let k = record (kept_by c.in_ok-call.call) { sent = d.sent } in
    let kept = anew_kept a.id s m c.in_ok-place.place d k s.version c.as_slice-client_id.result.now c.in_ok-place.number key a.operation.now vs typed f was st.fields.version ei (ap (λ (x : Kept). record x { sent = d.sent }) c.in_ok-call.ensures.1) in
    anew_stands a.id key (in_place_of a.operation.now vs typed) (λ call. refl) s _ m st refl refl refl refl refl refl refl refl
    (ap each (written_over c.put_for.new.pending s.pending.items _ (c.put_for.ensures.len ∙ c.deref_mut.ensures.len)) ∙ c.put_for.ensures.kept ∙ ap (λ (ps : List CodePending). slice_set (each ps) c.in_ok-place.place k) c.deref_mut.ensures.value ∙ kept)
