use Rattle.corbaloc.proofs.Exits.{at_err, at_none}
use Rattle.corbaloc.proofs.Versions.{no_major, no_minor, no_point, other_major, great_minor}
use Rattle.corbaloc.proofs.address.minor_of.Goals as goal

pub returns-in_err-major-clause-none : goal.returns-in_err-major-clause-none
returns-in_err-major-clause-none c =
    at_none c.from_residual.result (no_point c.args.version.now c.in_err-major.ensures)

pub returns-in_err-number-clause-none : goal.returns-in_err-number-clause-none
returns-in_err-number-clause-none c =
    at_none c.from_residual-in_err-number.result (no_major c.args.version.now c.in_ok-major.major.now c.in_ok-major.minor.now c.in_ok-major.ensures c.in_err-number.ensures.none)

pub returns-then-branch-ne1-clause-none : goal.returns-then-branch-ne1-clause-none
returns-then-branch-ne1-clause-none c =
    other_major c.args.version.now c.in_ok-major.major.now c.in_ok-major.minor.now c.in_ok-number.field-0 c.in_ok-major.ensures c.in_ok-number.ensures.found c.if-branch-ne1.true

pub returns-in_err-number-2-clause-none : goal.returns-in_err-number-2-clause-none
returns-in_err-number-2-clause-none c =
    at_none c.from_residual-in_err-number-2.result (no_minor c.args.version.now c.in_ok-major.major.now c.in_ok-major.minor.now c.in_ok-major.ensures c.in_err-number-2.ensures.none)

pub returns-clause-none : goal.returns-clause-none
returns-clause-none c =
    at_err c.try_from.result c.in_ok-number-2.field-0 c.ok.result c.ok.ensures.value c.try_from.ensures (great_minor c.args.version.now c.in_ok-major.major.now c.in_ok-major.minor.now c.in_ok-number-2.field-0 c.in_ok-major.ensures c.in_ok-number-2.ensures.found)
