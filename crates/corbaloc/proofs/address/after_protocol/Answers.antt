use Rattle.std.proofs.Common.{◌≡◌, ◌≢◌, ◌<◌, length, arith, rules, tests}
use Rattle.std.specs.Prelude.{codes}
use Rattle.std.proofs.lemmas.Result.{err_from_is_err_and}
use Rattle.corbaloc.specs.declared.error.LocationError.TheVariants.{UnknownProtocol}
use Rattle.corbaloc.specs.Grammar.{IsCut, IsFree}
use Rattle.corbaloc.proofs.Neither.{no_protocol, other_protocol}
use Rattle.corbaloc.proofs.address.after_protocol.Goals as goal

pub returns-in_err-protocol-clause-refused : goal.returns-in_err-protocol-clause-refused
returns-in_err-protocol-clause-refused c =
    let p = err_from_is_err_and c.from_residual.result c.from_residual.ensures.1 in
    let free : IsFree 58 c.args.text.now = rw c.in_err-protocol.ensures.ok_part at c.cut.ensures in
    let is : c.in_err-protocol.field-0.0 ≡ UnknownProtocol c.args.at = first_of (cc, grind arith, search rules) in
    rw (p.1, p.2, is) (no_protocol c.args.at c.args.text.now free)

pub returns-in_default-clause-refused : goal.returns-in_default-clause-refused
returns-in_default-clause-refused c =
    let cut : IsCut 58 c.args.text.now c.in_ok-protocol.protocol.now c.in_ok-protocol.rest.now = rw c.in_ok-protocol.ensures.ok_part at c.cut.ensures in
    let some : 0 < length c.in_ok-protocol.protocol.now = first_of (grind arith, omega arith, search (rules, tests)) in
    let iiop : c.in_ok-protocol.protocol.now ≢ codes "iiop" = first_of (search rules, search (rules, tests), grind arith) in
    let rir : c.in_ok-protocol.protocol.now ≢ codes "rir" = first_of (search rules, search (rules, tests), grind arith) in
    other_protocol c.args.at c.args.text.now c.in_ok-protocol.protocol.now c.in_ok-protocol.rest.now cut some iiop rir
