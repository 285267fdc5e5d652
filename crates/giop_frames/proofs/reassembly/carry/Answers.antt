use Rattle.giop_frames.specs.declared.reassembly.TakenUp.TheVariants.{Continued, Refused}
use Rattle.giop_frames.specs.Private.{IsContinued}
use Rattle.giop_frames.specs.Standing.{framed, entries}
use Rattle.giop_frames.proofs.Judging.{carried_on, carries-bad, carries-quiet, taken}
use Rattle.giop_frames.proofs.reassembly.carry.Goals as goal

pub returns-in-Refused-clause-by : goal.returns-in-Refused-clause-by
returns-in-Refused-clause-by c =
    carries-bad c.args.limits.now _ _ (framed c.args.header.now c.args.frame.now.items) c.in-Refused.fault
    (taken _ (Refused c.in-Refused.fault) c.args.limits.now c.args.header.now c.as_slice.result.now c.args.frame.now.items (entries c.args.parts.now.items) _ c.in-Refused.is c.as_slice.ensures.value c.in_ok-fault.ensures)

pub returns-in_ok-push-in-Continued-clause-by : goal.returns-in_ok-push-in-Continued-clause-by
returns-in_ok-push-in-Continued-clause-by c =
    let f = framed c.args.header.now c.args.frame.now.items in
    let ps = entries c.args.parts.now.items in
    let t : IsContinued c.in-Continued.part c.args.limits.now f ps (entries c.take_up.new.parts.items) =
    taken c.in_ok-fault.field-0 (Continued c.in-Continued.part) c.args.limits.now c.args.header.now c.as_slice.result.now c.args.frame.now.items ps (entries c.take_up.new.parts.items) c.in-Continued.is c.as_slice.ensures.value c.in_ok-fault.ensures in
    (carries-quiet c.args.limits.now _ f ps (entries c.take_up.new.parts.items) c.in-Continued.part t, c.clear.ensures.items, carried_on c.args.limits.now f ps c.take_up.new.parts.items _ c.in-Continued.part t c.in_ok-push-in-Continued.ensures.items)
