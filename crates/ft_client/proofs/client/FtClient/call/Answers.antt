use Rattle.std.proofs.Common.{◌≡◌, suc, true, refl, ap, ◌∙◌, subst, arith}
use Rattle.std.proofs.lemmas.Result.{err_from_is_err_and}
use Rattle.ft_client.specs.Calling.{call_of}
use Rattle.ft_client.specs.Clients.{fits, is_taken, placed}
use Rattle.ft_client.specs.Keeping.{kept_by}
use Rattle.ft_client.specs.Standing.{FtStands}
use Rattle.ft_client.proofs.Placing.{after_taken, few_pending, fits_is, kept_like, taken_is}
use Rattle.ft_client.proofs.client.FtClient.call.Goals as goal

pub returns-in_err-number-clause-err : goal.returns-in_err-number-clause-err
returns-in_err-number-clause-err c =
    let a = c.args in
    let p = err_from_is_err_and c.from_residual.result c.from_residual.ensures.1 in
    rw (p.1, p.2) (λ m st. c.in_err-number.ensures.err m (call_of a.object_key.now a.operation.now a.arguments.now a.expiration) st refl)

pub returns-clause-stands : goal.returns-clause-stands
returns-clause-stands c = λ m st.
    let a = c.args in
    let s = a.self.now in
    let call = call_of a.object_key.now a.operation.now a.arguments.now a.expiration in
    let n = c.in_ok-number.number in
    let ok = c.in_ok-number.ensures.ok in
    let next : n ≡ suc m.last = ok.0 ∙ ap suc st.fields.last in
    let few = few_pending s m st.fields.pending in
    let ei : c.as_slice-client_id.result.now ≡ m.client_id = c.as_slice-client_id.ensures.value ∙ st.fields.client_id in
    let short : fits (suc m.last) m call ≡ true = subst (λ i. fits i m call ≡ true) next (fits_is call m s.version c.as_slice-client_id.result.now n st.fields.version ei c.in_ok-call.ensures.0) in
    let taken : is_taken a.now call m ≡ true = taken_is a.now call m refl ok.1 (omega (arith, next, ok.2)) (omega (arith, few, ok.3, s.pending.ok.0)) refl short in
    let k = kept_like m call s.version c.as_slice-client_id.result.now n (kept_by c.in_ok-call.call) st.fields.version ei c.in_ok-call.ensures.1 in
    after_taken (is_taken a.now call m) _ (suc m.last) call m taken (subst (λ i. FtStands c.place.new.self (placed i call m m.link)) next (c.in_ok-place.ensures.stands m call st k))
