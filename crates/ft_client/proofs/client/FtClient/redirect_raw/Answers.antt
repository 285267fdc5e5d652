use Rattle.std.proofs.Common.{◌≡◌, List, map, true, false, slice_set, w32, subst, refl, sym, ap, ◌∙◌}
use Rattle.std.proofs.lemmas.Int.{to_z-of_z}
use Rattle.std.proofs.lemmas.Option.{same_Some}
use Rattle.std.proofs.lemmas.Result.{err_from_is_err_and}
use Rattle.ft_client.specs.declared.pending.Pending.{Pending as CodePending}
use Rattle.ft_client.specs.Calling.{IsRedirectError, call_raw, is_led, raw_until}
use Rattle.ft_client.specs.Clients.{Pending, find_pending, fits, stands_in}
use Rattle.ft_client.specs.Keeping.{Kept, kept_by, kept_of}
use Rattle.ft_client.specs.Private.{IsLedAt}
use Rattle.ft_client.specs.Redirections.{in_place_of}
use Rattle.ft_client.proofs.Anew.{anew_kept, anew_stands}
use Rattle.ft_client.proofs.Models.{written_over}
use Rattle.ft_client.proofs.Octets.{body_within}
use Rattle.ft_client.proofs.Placing.{fits_is, unfit_is}
use Rattle.ft_client.proofs.RawCalls.{no_ft_is, place_again}
use Rattle.ft_client.proofs.Redirecting.{redirected_is, redirected_kept, redirected_stands, write_error_led}
use Rattle.ft_client.proofs.client.FtClient.redirect_raw.Goals as goal

abbrev each : List CodePending → List Kept
each ps = map kept_by ps

pub returns-then-has_ft_request-clause-err : goal.returns-then-has_ft_request-clause-err
returns-then-has_ft_request-clause-err c = λ m st. no_ft_is c.args.call.now c.has_ft_request.result true c.has_ft_request.ensures c.if-has_ft_request.true

pub returns-in_err-place-clause-err : goal.returns-in_err-place-clause-err
returns-in_err-place-clause-err c =
    let a = c.args in
    let own = no_ft_is a.call.now c.has_ft_request.result false c.has_ft_request.ensures c.if-has_ft_request.false in
    let p = err_from_is_err_and c.from_residual.result c.from_residual.ensures.1 in
    rw (p.1, p.2) (λ m st. (own, let h = c.in_err-place.ensures.err m st in subst (λ e. IsRedirectError a.id (raw_until a.call.now) m e) (sym h.0) (ap (λ z. is_led (find_pending z m.pending)) (sym (to_z-of_z w32 a.id c.ranges.id)) ∙ h.1)))

pub returns-in_err-kept-clause-err : goal.returns-in_err-kept-clause-err
returns-in_err-kept-clause-err c =
    let a = c.args in
    let d = c.index-one.result.now in
    let own = no_ft_is a.call.now c.has_ft_request.result false c.has_ft_request.ensures c.if-has_ft_request.false in
    let p = err_from_is_err_and c.from_residual-in_err-kept.result c.from_residual-in_err-kept.ensures.1 in
    rw (p.1, p.2) (λ m st.
    let f = subst (λ z. IsLedAt z c.args.self.now m c.in_ok-place.place c.in_ok-place.number) (to_z-of_z w32 c.args.id c.ranges.id) (c.in_ok-place.ensures.found m st.fields) in
    let ei = c.as_slice.ensures.value ∙ st.fields.client_id in
    let asked = raw_until a.call.now in
    let was : kept_by d ≡ kept_of m.version m.client_id f.call = ap kept_by c.index-one.ensures ∙ f.kept d in
    let expiration : d.expiration ≡ f.call.call.expiration = ap (λ (k : Kept). k.expiration) was in (
      own,
      write_error_led a.id asked m c.in_err-kept.field-0.0 (λ long. (
        f.call,
        f.find,
        f.led,
        (λ i. fits (sym f.numbered i) m (asked (sym expiration i))) ∙ unfit_is (asked d.expiration) m m.version c.as_slice.result.now c.in_ok-place.number refl ei (c.in_err-kept.ensures m.version long),
      )) (ap is_led f.find ∙ f.led),
    ))

pub is_placed-requires : goal.is_placed-requires
is_placed-requires c =
    let call = c.args.call.now in
    body_within c.as_slice.result.now c.in_ok-place.number call.version (record call { expiration = c.index-one.result.now.expiration }) c.as_slice-2.result.now (c.as_slice-2.ensures.value ∙ ap (λ (x : Kept). x.message) (c.in_ok-kept.ensures call.version).1)

pub returns-then-not-is_placed-clause-err : goal.returns-then-not-is_placed-clause-err
returns-then-not-is_placed-clause-err c = λ m st.
    let a = c.args in
    let d = c.index-one.result.now in
    let own = no_ft_is a.call.now c.has_ft_request.result false c.has_ft_request.ensures c.if-has_ft_request.false in
    let f = subst (λ z. IsLedAt z c.args.self.now m c.in_ok-place.place c.in_ok-place.number) (to_z-of_z w32 c.args.id c.ranges.id) (c.in_ok-place.ensures.found m st.fields) in
    let ei = c.as_slice.ensures.value ∙ st.fields.client_id in
    let asked = raw_until a.call.now in
    let was : kept_by d ≡ kept_of m.version m.client_id f.call = ap kept_by c.index-one.ensures ∙ f.kept d in
    let expiration : d.expiration ≡ f.call.call.expiration = ap (λ (k : Kept). k.expiration) was in
    let kept = c.in_ok-kept.ensures m.version in
    let place = place_again (record a.call.now { expiration = d.expiration }) m c.in_ok-place.number c.as_slice.result.now c.as_slice-2.result.now ei (c.as_slice-2.ensures.value ∙ ap (λ (x : Kept). x.message) kept.1) in (
      own,
      (
        f.call,
        f.find,
        f.led,
        (λ i. fits (sym f.numbered i) m (asked (sym expiration i))) ∙ fits_is (asked d.expiration) m m.version c.as_slice.result.now c.in_ok-place.number refl ei kept.0,
        (λ i. stands_in (sym f.numbered i) m (asked (sym expiration i))) ∙ place ∙ sym c.is_placed.ensures ∙ c.if-not-is_placed.true,
      ),
    )

pub returns-clause-fitting : goal.returns-clause-fitting
returns-clause-fitting c = λ m st.
    let a = c.args in
    let d = c.index-one.result.now in
    let f = subst (λ z. IsLedAt z c.args.self.now m c.in_ok-place.place c.in_ok-place.number) (to_z-of_z w32 c.args.id c.ranges.id) (c.in_ok-place.ensures.found m st.fields) in
    let ei = c.as_slice.ensures.value ∙ st.fields.client_id in
    let asked = raw_until a.call.now in
    let was : kept_by d ≡ kept_of m.version m.client_id f.call = ap kept_by c.index-one.ensures ∙ f.kept d in
    let expiration : d.expiration ≡ f.call.call.expiration = ap (λ (k : Kept). k.expiration) was in (
      f.call,
      f.find,
      f.led,
      (λ i. fits (sym f.numbered i) m (asked (sym expiration i))) ∙ fits_is (asked d.expiration) m m.version c.as_slice.result.now c.in_ok-place.number refl ei (c.in_ok-kept.ensures m.version).0,
    )

pub returns-clause-stands : goal.returns-clause-stands
returns-clause-stands c = λ m p st find form operation arguments.
    let a = c.args in
    let s = a.self.now in
    let call = a.call.now in
    let key = call.object_key.now in
    let d = c.index-one.result.now in
    let f = subst (λ z. IsLedAt z c.args.self.now m c.in_ok-place.place c.in_ok-place.number) (to_z-of_z w32 c.args.id c.ranges.id) (c.in_ok-place.ensures.found m st.fields) in
    let one : f.call ≡ p = same_Some f.call p (sym f.find ∙ find) in
    let ef = ap (λ (q : Pending). q.call.form) one ∙ form in
    let eo = ap (λ (q : Pending). q.call.operation) one ∙ operation in
    let ea = ap (λ (q : Pending). q.call.arguments) one ∙ arguments in
    let ei = c.as_slice.ensures.value ∙ st.fields.client_id in
    let asked = raw_until call in
    let was : kept_by d ≡ kept_of m.version m.client_id f.call = ap kept_by c.index-one.ensures ∙ f.kept d in
    let expiration : d.expiration ≡ f.call.call.expiration = ap (λ (k : Kept). k.expiration) was in
    let ok = c.in_ok-kept.ensures m.version in
    let short : fits f.call.id m (asked f.call.call.expiration) ≡ true = (λ i. fits (sym f.numbered i) m (asked (sym expiration i))) ∙ fits_is (asked d.expiration) m m.version c.as_slice.result.now c.in_ok-place.number refl ei ok.0 in
    let place = place_again (record call { expiration = d.expiration }) m c.in_ok-place.number c.as_slice.result.now c.as_slice-2.result.now ei (c.as_slice-2.ensures.value ∙ ap (λ (x : Kept). x.message) ok.1) in
    let placed : stands_in f.call.id m (asked f.call.call.expiration) ≡ true = (λ i. stands_in (sym f.numbered i) m (asked (sym expiration i))) ∙ place ∙ sym c.is_placed.ensures ∙ c.if-not-is_placed.false in
    let k = record (kept_by c.in_ok-kept.kept) { sent = d.sent } in
    let kept = redirected_kept a.id s m c.in_ok-place.place d k m.version c.as_slice.result.now c.in_ok-place.number key call.operation.now (call_raw call).arguments (call_raw call).form f was refl ei ef eo ea (ap (λ (x : Kept). record x { sent = d.sent }) ok.1) in
    redirected_stands s _ m a.id key (find_pending a.id m.pending) (redirected_is m key call.operation.now (call_raw call).arguments (call_raw call).form f.call (find_pending a.id m.pending) f.find ef eo ea f.led placed short) st refl refl refl refl refl refl refl refl
    (ap each (written_over c.put_for.new.pending s.pending.items _ (c.put_for.ensures.len ∙ c.deref_mut.ensures.len)) ∙ c.put_for.ensures.kept ∙ ap (λ (ps : List CodePending). slice_set (each ps) c.in_ok-place.place k) c.deref_mut.ensures.value ∙ kept)

pub returns-clause-anew : goal.returns-clause-anew
returns-clause-anew c = λ replied m st.
    let a = c.args in
    let s = a.self.now in
    let call = a.call.now in
    let key = call.object_key.now in
    let d = c.index-one.result.now in
    let f = subst (λ z. IsLedAt z c.args.self.now m c.in_ok-place.place c.in_ok-place.number) (to_z-of_z w32 c.args.id c.ranges.id) (c.in_ok-place.ensures.found m st.fields) in
    let ei = c.as_slice.ensures.value ∙ st.fields.client_id in
    let was : kept_by d ≡ kept_of m.version m.client_id f.call = ap kept_by c.index-one.ensures ∙ f.kept d in
    let k = record (kept_by c.in_ok-kept.kept) { sent = d.sent } in
    let kept = anew_kept a.id s m c.in_ok-place.place d k m.version c.as_slice.result.now c.in_ok-place.number key call.operation.now (call_raw call).arguments (call_raw call).form f was refl ei (ap (λ (x : Kept). record x { sent = d.sent }) (c.in_ok-kept.ensures m.version).1) in
    anew_stands a.id key (in_place_of call.operation.now (call_raw call).arguments (call_raw call).form) (λ again. replied) s _ m st refl refl refl refl refl refl refl refl
    (ap each (written_over c.put_for.new.pending s.pending.items _ (c.put_for.ensures.len ∙ c.deref_mut.ensures.len)) ∙ c.put_for.ensures.kept ∙ ap (λ (ps : List CodePending). slice_set (each ps) c.in_ok-place.place k) c.deref_mut.ensures.value ∙ kept)
