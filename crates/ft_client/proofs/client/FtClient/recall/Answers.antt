use Rattle.std.proofs.Common.{◌≡◌, ◌&&◌, nat_lt, true, refl, sym, ap, ◌∙◌, arith}
use Rattle.std.proofs.lemmas.Result.{err_from_is_err_and}
use Rattle.ft_client.specs.Calling.{call_of}
use Rattle.ft_client.specs.Clients.{fits, is_resumed}
use Rattle.ft_client.specs.Keeping.{kept_by}
use Rattle.ft_client.proofs.Placing.{after_taken, few_pending, fits_is, kept_like, resumed_is}
use Rattle.ft_client.proofs.client.FtClient.recall.Goals as goal

pub returns-in_err-check_recall-clause-err : goal.returns-in_err-check_recall-clause-err
returns-in_err-check_recall-clause-err c =
    let a = c.args in
    let p = err_from_is_err_and c.from_residual.result c.from_residual.ensures.1 in
    rw (p.1, p.2) (λ m st. c.in_err-check_recall.ensures.err m (call_of a.object_key.now a.operation.now a.arguments.now a.expiration) st refl)

pub returns-clause-stands : goal.returns-clause-stands
returns-clause-stands c = λ m st.
    let a = c.args in
    let s = a.self.now in
    let call = call_of a.object_key.now a.operation.now a.arguments.now a.expiration in
    let ok = c.in_ok-check_recall.ensures in
    let free : (nat_lt m.last a.number && nat_lt a.number 2147483648) ≡ true = ap (λ n. nat_lt n a.number && nat_lt a.number 2147483648) (sym st.fields.last) ∙ ok.free in
    let few = few_pending s m st.fields.pending in
    let ei : c.as_slice-client_id.result.now ≡ m.client_id = c.as_slice-client_id.ensures.value ∙ st.fields.client_id in
    let short : fits a.number m call ≡ true = fits_is call m s.version c.as_slice-client_id.result.now a.number st.fields.version ei c.in_ok-call.ensures.0 in
    let again : is_resumed a.now a.number call m ≡ true = resumed_is a.now a.number call m refl free ok.in_time (omega (arith, few, ok.few, s.pending.ok.0)) refl short in
    let k = kept_like m call s.version c.as_slice-client_id.result.now a.number (kept_by c.in_ok-call.call) st.fields.version ei c.in_ok-call.ensures.1 in
    after_taken (is_resumed a.now a.number call m) _ a.number call m again (c.in_ok-place.ensures.stands m call st k)
