use Rattle.std.proofs.Common.{Ok, Err, sym, arith}
use Rattle.giop_proxy.proofs.PassingSights.{judgement, needs-frame, needs-head, sight-all, sight-early, sight-refused, sight-short}
use Rattle.giop_proxy.proofs.passes.looking.look.Goals as goal

pub returns-in_default-clause-seen : goal.returns-in_default-clause-seen
returns-in_default-clause-seen c = sym (sight-short c.args.limits.now c.args.octets.now c.in_default.ensures.cases)

pub returns-in_default-clause-needed : goal.returns-in_default-clause-needed
returns-in_default-clause-needed c = needs-head c.args.limits.now c.args.octets.now c.in_default.ensures.cases

pub returns-in-Err-clause-seen : goal.returns-in-Err-clause-seen
returns-in-Err-clause-seen c =
    sym (sight-refused c.args.limits.now c.args.octets.now c.in-Err.fault c.in-Some.ensures.cases.enough
    (judgement c.args.octets.now c.in-Some.head.now (Err c.in-Err.fault) c.in-Some.ensures.cases.same c.in-Err.ensures))

pub returns-then-octets-size-clause-seen : goal.returns-then-octets-size-clause-seen
returns-then-octets-size-clause-seen c =
    sym (sight-early c.args.limits.now c.args.octets.now c.in-Ok.header c.in-Some.ensures.cases.enough
    (judgement c.args.octets.now c.in-Some.head.now (Ok c.in-Ok.header) c.in-Some.ensures.cases.same c.in-Ok.ensures) (omega (arith, c.if-octets-size.true, c.kept_size-size.ensures)))

pub returns-then-octets-size-clause-needed : goal.returns-then-octets-size-clause-needed
returns-then-octets-size-clause-needed c =
    rw c.kept_size-size.ensures (needs-frame c.args.limits.now c.args.octets.now c.in-Ok.header c.in-Some.ensures.cases.enough
    (judgement c.args.octets.now c.in-Some.head.now (Ok c.in-Ok.header) c.in-Some.ensures.cases.same c.in-Ok.ensures) (omega (arith, c.if-octets-size.true, c.kept_size-size.ensures)))

pub returns-else-octets-size-clause-seen : goal.returns-else-octets-size-clause-seen
returns-else-octets-size-clause-seen c =
    sym (sight-all c.args.limits.now c.args.octets.now c.in-Ok.header c.in-Some.ensures.cases.enough
    (judgement c.args.octets.now c.in-Some.head.now (Ok c.in-Ok.header) c.in-Some.ensures.cases.same c.in-Ok.ensures) (omega (arith, c.if-octets-size.false, c.kept_size-size.ensures)))
