use Rattle.std.proofs.Common.{◌≡◌, ◌-◌, length, arith}
use Rattle.giop_frames.specs.declared.reassembly.TakenUp.TheVariants.{Continued, Refused}
use Rattle.giop_frames.specs.Private.{IsContinued}
use Rattle.giop_frames.specs.Standing.{framed, entries}
use Rattle.giop_frames.proofs.Judging.{by-end, ends-bad, taken}
use Rattle.giop_frames.proofs.reassembly.end.Goals as goal

pub returns-in-Refused-clause-by : goal.returns-in-Refused-clause-by
returns-in-Refused-clause-by c =
    ends-bad c.args.limits.now _ _ (framed c.args.header.now c.args.frame.now.items) c.in-Refused.fault
    (taken _ (Refused c.in-Refused.fault) c.args.limits.now c.args.header.now c.as_slice.result.now c.args.frame.now.items (entries c.args.parts.now.items) _ c.in-Refused.is c.as_slice.ensures.value c.in_ok-part.ensures)

pub returns-in-Continued-clause-by : goal.returns-in-Continued-clause-by
returns-in-Continued-clause-by c =
    let f = framed c.args.header.now c.args.frame.now.items in
    let ps = entries c.args.parts.now.items in
    let t : IsContinued c.in-Continued.part c.args.limits.now f ps (entries c.take_up.new.parts.items) =
    taken c.in_ok-part.field-0 (Continued c.in-Continued.part) c.args.limits.now c.args.header.now c.as_slice.result.now c.args.frame.now.items ps (entries c.take_up.new.parts.items) c.in-Continued.is c.as_slice.ensures.value c.in_ok-part.ensures in
    let size : c.len.result - 12 ≡ length c.in-Continued.part.octets.items - 12 = omega (arith, c.len.ensures) in
    by-end c.args.limits.now c.args.header.now c.args.frame.now.items c.as_slice-in-Continued.result.now ps (entries c.take_up.new.parts.items) c.in-Continued.part c.whole.result (c.len.result - 12) t c.as_slice-in-Continued.ensures.value size (omega (arith, c.in-Continued.part.headed)) c.whole.ensures.verdict
