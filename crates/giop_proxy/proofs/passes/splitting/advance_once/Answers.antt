use Rattle.std.proofs.Common.{arith}
use Rattle.giop_proxy.specs.declared.passes.looking.Seen.TheVariants as seen
use Rattle.giop_proxy.proofs.PassingSights.{needs-nothing}
use Rattle.giop_proxy.proofs.PassingSteps.{exact-as, fails, front-is, goes-kept, goes-over, goes-waiting, seen-as}
use Rattle.giop_proxy.proofs.passes.splitting.advance_once.Goals as goal

pub returns-then-over-gt0-clause-passes : goal.returns-then-over-gt0-clause-passes
returns-then-over-gt0-clause-passes c =
    let n = c.min-taken.result in
    goes-over c.args.limits.now c.args.frame.now.items c.args.over.now _ n c.args.piece.now (omega (arith, c.min-taken.ensures)) (omega (arith, c.min-taken.ensures)) (omega arith)

pub returns-in-Waiting-clause-passes : goal.returns-in-Waiting-clause-passes
returns-in-Waiting-clause-passes c =
    let g = c.gather.new.frame.items in
    goes-waiting c.args.limits.now c.args.frame.now.items g c.args.piece.now c.args.over.now c.in_ok-taken.field-0.taken (omega (arith, c.if-over-gt0.false)) c.in_ok-taken.ensures.octets c.in_ok-taken.ensures.taken.1
    (seen-as c.args.limits.now g c.in_ok-taken.field-0.seen (seen.Waiting c.in-Waiting.more) c.in-Waiting.is c.in_ok-taken.ensures.seen)

pub returns-in-Refused-clause-passes : goal.returns-in-Refused-clause-passes
returns-in-Refused-clause-passes c =
    let g = c.gather.new.frame.items in
    let v = seen.Refused c.in-Refused.fault in
    fails c.args.limits.now c.args.frame.now.items g c.args.piece.now c.args.over.now c.in_ok-taken.field-0.taken (omega (arith, c.if-over-gt0.false)) c.in_ok-taken.ensures.octets c.in_ok-taken.ensures.taken.1 c.in-Refused.fault c.in_ok-taken.ensures.taken.0
    (seen-as c.args.limits.now g c.in_ok-taken.field-0.seen v c.in-Refused.is c.in_ok-taken.ensures.seen) (exact-as c.args.limits.now g c.in_ok-taken.field-0.seen v c.in-Refused.is c.in_ok-taken.ensures.exact)

pub returns-in-Kept-clause-passes : goal.returns-in-Kept-clause-passes
returns-in-Kept-clause-passes c =
    let g = c.gather.new.frame.items in
    let v = seen.Kept c.in-Kept.header in
    rw c.over_size.ensures (goes-kept c.args.limits.now c.args.frame.now.items g c.args.piece.now c.args.over.now c.in_ok-taken.field-0.taken (omega (arith, c.if-over-gt0.false)) c.in_ok-taken.ensures.octets c.in_ok-taken.ensures.taken.1 c.in-Kept.header c.in_ok-taken.ensures.taken.0
    (seen-as c.args.limits.now g c.in_ok-taken.field-0.seen v c.in-Kept.is c.in_ok-taken.ensures.seen) (exact-as c.args.limits.now g c.in_ok-taken.field-0.seen v c.in-Kept.is c.in_ok-taken.ensures.exact))

pub returns-in-Kept-clause-needed : goal.returns-in-Kept-clause-needed
returns-in-Kept-clause-needed c = needs-nothing c.args.limits.now

pub returns-in-Kept-clause-kept : goal.returns-in-Kept-clause-kept
returns-in-Kept-clause-kept c =
    let g = c.gather.new.frame.items in
    let v = seen.Kept c.in-Kept.header in
    front-is c.args.limits.now c.in-Kept.header g (exact-as c.args.limits.now g c.in_ok-taken.field-0.seen v c.in-Kept.is c.in_ok-taken.ensures.exact)
