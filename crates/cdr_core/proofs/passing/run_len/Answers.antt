use Rattle.std.proofs.Common.{◌+◌, ◌*◌, ap, arith}
use Rattle.cdr_core.specs.View.{form_of}
use Rattle.cdr_core.proofs.Counted.{run_passes}
use Rattle.cdr_core.proofs.passing.run_len.Goals as goal

pub returns-clause-passes : goal.returns-clause-passes
returns-clause-passes c =
    let now = c.args.cursor.now in
    let n = c.in_ok-size.size in
    let k = c.gap.result + c.args.count * n in
    let p = c.position-place.ensures.is in
    run_passes (form_of c.args.ty.now) n now.order c.args.count now.place k now.rest c.in_ok-size.ensures.is (omega (arith, c.if-count-eq0.false))
    (ap (λ g. g + c.args.count * n) (rw p.1 at c.gap.ensures.is)) (rw p.2 at c.if-octets-rest.false)
