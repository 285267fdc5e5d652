use Rattle.std.proofs.Common.{◌<◌, length, arith, rules, tests}
use Rattle.corbaloc.proofs.Exits.{at_none}
use Rattle.corbaloc.proofs.Neither.{no_port}
use Rattle.corbaloc.proofs.host.port_of.Goals as goal

pub returns-in_err-strip_prefix-clause-none : goal.returns-in_err-strip_prefix-clause-none
unfolding lib.Utf8.encode
returns-in_err-strip_prefix-clause-none c =
    let some : 0 < length c.args.behind.now = first_of (grind arith, omega arith, search (rules, tests)) in
    at_none c.from_residual.result (no_port c.args.behind.now some c.in_err-strip_prefix.ensures.cases)
