use Rattle.std.proofs.Common.{true, false, refl, sym, ap, ◌∙◌}
use Rattle.std.proofs.lemmas.Result.{err_from_is_err_and}
use Rattle.ft_client.specs.Calling.{call_raw}
use Rattle.ft_client.specs.Clients.{is_resumed}
use Rattle.ft_client.specs.Keeping.{Kept, kept_by}
use Rattle.ft_client.proofs.Octets.{body_within}
use Rattle.ft_client.proofs.Placing.{after_taken, free_is, kept_like, says_taken}
use Rattle.ft_client.proofs.RawCalls.{before_is, no_ft_is, place_again, raw_resumed_is, short_again, write_error_again}
use Rattle.ft_client.proofs.client.FtClient.recall_raw.Goals as goal

pub returns-then-has_ft_request-clause-err : goal.returns-then-has_ft_request-clause-err
returns-then-has_ft_request-clause-err c = λ m st. no_ft_is c.args.call.now c.has_ft_request.result true c.has_ft_request.ensures c.if-has_ft_request.true

pub returns-in_err-check_recall-clause-err : goal.returns-in_err-check_recall-clause-err
returns-in_err-check_recall-clause-err c =
    let p = err_from_is_err_and c.from_residual.result c.from_residual.ensures.1 in
    let own = no_ft_is c.args.call.now c.has_ft_request.result false c.has_ft_request.ensures c.if-has_ft_request.false in
    rw (p.1, p.2) (λ m st. (own, c.in_err-check_recall.ensures.err m (call_raw c.args.call.now) st refl))

pub returns-in_err-kept-clause-err : goal.returns-in_err-kept-clause-err
returns-in_err-kept-clause-err c =
    let a = c.args in
    let p = err_from_is_err_and c.from_residual-in_err-kept.result c.from_residual-in_err-kept.ensures.1 in
    let own = no_ft_is a.call.now c.has_ft_request.result false c.has_ft_request.ensures c.if-has_ft_request.false in
    let ok = c.in_ok-check_recall.ensures in
    rw (p.1, p.2) (λ m st.
    let seen = before_is a.self.now m a.now (call_raw a.call.now) a.number _ st own ok.free ok.in_time a.self.now.pending.ok.0 ok.few in
    write_error_again a.now (call_raw a.call.now) m a.number c.as_slice.result.now seen (c.as_slice.ensures.value ∙ st.fields.client_id) c.in_err-kept.field-0.0 (λ is. c.in_err-kept.ensures m.version is))

pub is_placed-requires : goal.is_placed-requires
is_placed-requires c =
    let call = c.args.call.now in
    body_within c.as_slice.result.now c.args.number call.version call c.as_slice-2.result.now (c.as_slice-2.ensures.value ∙ ap (λ (x : Kept). x.message) (c.in_ok-kept.ensures call.version).1)

pub returns-then-not-is_placed-clause-err : goal.returns-then-not-is_placed-clause-err
returns-then-not-is_placed-clause-err c = λ m st.
    let a = c.args in
    let call = a.call.now in
    let n = a.number in
    let own = no_ft_is call c.has_ft_request.result false c.has_ft_request.ensures c.if-has_ft_request.false in
    let ok = c.in_ok-check_recall.ensures in
    let ei = c.as_slice.ensures.value ∙ st.fields.client_id in
    let seen = before_is a.self.now m a.now (call_raw call) n _ st own ok.free ok.in_time a.self.now.pending.ok.0 ok.few in
    let kept = c.in_ok-kept.ensures m.version in
    let place = place_again call m n c.as_slice.result.now c.as_slice-2.result.now ei (c.as_slice-2.ensures.value ∙ ap (λ (x : Kept). x.message) kept.1) in
    (own, free_is m.last n seen.free, seen.in_time, seen.few, short_again a.now (call_raw call) m n c.as_slice.result.now seen ei kept.0, place ∙ sym c.is_placed.ensures ∙ c.if-not-is_placed.true)

pub place-requires-clause-unsent : goal.place-requires-clause-unsent
place-requires-clause-unsent c = ap (λ (x : Kept). x.sent) (c.in_ok-kept.ensures c.args.call.now.version).1

pub returns-in_err-place-clause-err : goal.returns-in_err-place-clause-err
returns-in_err-place-clause-err c =
    let a = c.args in
    let p = err_from_is_err_and c.from_residual-in_err-place.result c.from_residual-in_err-place.ensures.1 in
    let own = no_ft_is a.call.now c.has_ft_request.result false c.has_ft_request.ensures c.if-has_ft_request.false in
    let ok = c.in_ok-check_recall.ensures in
    rw (p.1, p.2) (λ m st.
    let seen = before_is a.self.now m a.now (call_raw a.call.now) a.number _ st own ok.free ok.in_time a.self.now.pending.ok.0 ok.few in
    (own, (free_is m.last a.number seen.free, seen.in_time, seen.few)))

pub returns-clause-taken : goal.returns-clause-taken
returns-clause-taken c = λ m st.
    let a = c.args in
    let call = a.call.now in
    let n = a.number in
    let own = no_ft_is call c.has_ft_request.result false c.has_ft_request.ensures c.if-has_ft_request.false in
    let ok = c.in_ok-check_recall.ensures in
    let ei = c.as_slice.ensures.value ∙ st.fields.client_id in
    let seen = before_is a.self.now m a.now (call_raw call) n _ st own ok.free ok.in_time a.self.now.pending.ok.0 ok.few in
    let kept = c.in_ok-kept.ensures m.version in
    let place = place_again call m n c.as_slice.result.now c.as_slice-2.result.now ei (c.as_slice-2.ensures.value ∙ ap (λ (x : Kept). x.message) kept.1) in
    raw_resumed_is a.now (call_raw call) m n seen (place ∙ sym c.is_placed.ensures ∙ c.if-not-is_placed.false) (short_again a.now (call_raw call) m n c.as_slice.result.now seen ei kept.0)

pub returns-clause-stands : goal.returns-clause-stands
returns-clause-stands c = λ m st.
    let a = c.args in
    let call = a.call.now in
    let n = a.number in
    let own = no_ft_is call c.has_ft_request.result false c.has_ft_request.ensures c.if-has_ft_request.false in
    let ok = c.in_ok-check_recall.ensures in
    let ei = c.as_slice.ensures.value ∙ st.fields.client_id in
    let seen = before_is a.self.now m a.now (call_raw call) n _ st own ok.free ok.in_time a.self.now.pending.ok.0 ok.few in
    let kept = c.in_ok-kept.ensures m.version in
    let place = place_again call m n c.as_slice.result.now c.as_slice-2.result.now ei (c.as_slice-2.ensures.value ∙ ap (λ (x : Kept). x.message) kept.1) in
    let again = raw_resumed_is a.now (call_raw call) m n seen (place ∙ sym c.is_placed.ensures ∙ c.if-not-is_placed.false) (short_again a.now (call_raw call) m n c.as_slice.result.now seen ei kept.0) in
    let k = kept_like m (call_raw call) m.version c.as_slice.result.now n (kept_by c.in_ok-kept.kept) refl ei kept.1 in
    after_taken (is_resumed a.now n (call_raw call) m) _ n (call_raw call) m again (c.in_ok-place.ensures.stands m (call_raw call) st k)

pub returns-clause-out : goal.returns-clause-out
returns-clause-out c = λ m st.
    let a = c.args in
    let call = a.call.now in
    let n = a.number in
    let own = no_ft_is call c.has_ft_request.result false c.has_ft_request.ensures c.if-has_ft_request.false in
    let ok = c.in_ok-check_recall.ensures in
    let ei = c.as_slice.ensures.value ∙ st.fields.client_id in
    let seen = before_is a.self.now m a.now (call_raw call) n _ st own ok.free ok.in_time a.self.now.pending.ok.0 ok.few in
    let kept = c.in_ok-kept.ensures m.version in
    let place = place_again call m n c.as_slice.result.now c.as_slice-2.result.now ei (c.as_slice-2.ensures.value ∙ ap (λ (x : Kept). x.message) kept.1) in
    let again = raw_resumed_is a.now (call_raw call) m n seen (place ∙ sym c.is_placed.ensures ∙ c.if-not-is_placed.false) (short_again a.now (call_raw call) m n c.as_slice.result.now seen ei kept.0) in
    let k = kept_like m (call_raw call) m.version c.as_slice.result.now n (kept_by c.in_ok-kept.kept) refl ei kept.1 in
    says_taken (is_resumed a.now n (call_raw call) m) n (call_raw call) m a.out.now.items c.place.new.out.items again (c.in_ok-place.ensures.out m (call_raw call) st k)
