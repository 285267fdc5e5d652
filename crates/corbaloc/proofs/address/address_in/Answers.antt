use Rattle.std.proofs.Common.{inr}
use Rattle.std.proofs.lemmas.Result.{err_from_is_err_and}
use Rattle.corbaloc.proofs.address.address_in.Goals as goal

pub returns-in_err-host-clause-refused : goal.returns-in_err-host-clause-refused
returns-in_err-host-clause-refused c =
    let p = err_from_is_err_and c.from_residual-in_err-host.result c.from_residual-in_err-host.ensures.1 in
    let fault = rw c.place_of-2.ensures at c.in_err-host.ensures.refused in
    rw (p.1, p.2) (λ other. inr (c.in_ok-rest.rest.now, c.in_ok-rest.ensures.spelled, inr (c.in_ok-minor.minor, c.in_ok-minor.place.now, c.in_ok-minor.ensures.spelled, fault)))
