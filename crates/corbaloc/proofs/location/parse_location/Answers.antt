use Rattle.std.proofs.Common.{◌≢◌, inl, inr, rules}
use Rattle.std.proofs.lemmas.Result.{err_from_is_err_and, IfErr-weaker}
use Rattle.corbaloc.specs.declared.error.LocationError.TheVariants.{Memory}
use Rattle.corbaloc.specs.Faults.{IsFault}
use Rattle.corbaloc.specs.Grammar.{SpellsScheme}
use Rattle.corbaloc.proofs.Refused.{fault_refuses}
use Rattle.corbaloc.proofs.location.parse_location.Goals as goal

pub returns-in_err-rest-clause-refused : goal.returns-in_err-rest-clause-refused
returns-in_err-rest-clause-refused c =
    IfErr-weaker c.from_residual.result (λ e. e ≢ Memory → IsFault c.args.text.now e) _ (λ e f other location s. fault_refuses c.args.text.now e location (f other) s) (search rules)

pub returns-in_err-addresses-clause-fault : goal.returns-in_err-addresses-clause-fault
returns-in_err-addresses-clause-fault c =
    let p = err_from_is_err_and c.from_residual-in_err-addresses.result c.from_residual-in_err-addresses.ensures.1 in
    let scheme : SpellsScheme c.args.text.now c.in_ok-rest.rest.now = rw c.in_ok-rest.ensures.ok_part at c.after_scheme.ensures.found in
    let fault = rw c.place_of.ensures at c.in_err-addresses.ensures.refused in
    rw (p.1, p.2) (λ other. inr (c.in_ok-rest.rest.now, c.before_key.result.0.now, c.before_key.result.1.now, scheme, c.before_key.ensures, inl (fault other)))

pub returns-in_err-addresses-clause-refused : goal.returns-in_err-addresses-clause-refused
returns-in_err-addresses-clause-refused c =
    IfErr-weaker c.from_residual-in_err-addresses.result (λ e. e ≢ Memory → IsFault c.args.text.now e) _ (λ e f other location s. fault_refuses c.args.text.now e location (f other) s) (returns-in_err-addresses-clause-fault c)

pub returns-in_err-key-clause-fault : goal.returns-in_err-key-clause-fault
returns-in_err-key-clause-fault c =
    let p = err_from_is_err_and c.from_residual-in_err-key.result c.from_residual-in_err-key.ensures.1 in
    let scheme : SpellsScheme c.args.text.now c.in_ok-rest.rest.now = rw c.in_ok-rest.ensures.ok_part at c.after_scheme.ensures.found in
    let fault = rw (c.place_of-2.ensures, c.as_bytes.ensures.value) at c.in_err-key.ensures.refused in
    rw (p.1, p.2) (λ other. inr (c.in_ok-rest.rest.now, c.before_key.result.0.now, c.before_key.result.1.now, scheme, c.before_key.ensures, inr (c.in_ok-addresses.addresses.items, c.in_ok-addresses.ensures.spelled, fault other)))

pub returns-in_err-key-clause-refused : goal.returns-in_err-key-clause-refused
returns-in_err-key-clause-refused c =
    IfErr-weaker c.from_residual-in_err-key.result (λ e. e ≢ Memory → IsFault c.args.text.now e) _ (λ e f other location s. fault_refuses c.args.text.now e location (f other) s) (returns-in_err-key-clause-fault c)
