use Rattle.std.proofs.Common.{ap, arith}
use Rattle.giop_frames.specs.Standing.{entries}
use Rattle.giop_frames.proofs.Judging.{by-apart, by-cancel, by-uncut}
use Rattle.giop_frames.proofs.reassembly.settle_as.Goals as goal

pub returns-in-Drops-clause-by : goal.returns-in-Drops-clause-by
returns-in-Drops-clause-by c =
    rw c.in-Drops.is (by-cancel c.args.limits.now c.args.header.now c.args.frame.now.items c.as_slice.result.now (entries c.args.parts.now.items) (entries c.cancel.new.parts.items) c.cancel.result
    c.as_slice.ensures.value (omega (arith, c.requires.headed)) c.cancel.ensures.verdict c.cancel.ensures.parts)

pub returns-in-Uncut-clause-by : goal.returns-in-Uncut-clause-by
returns-in-Uncut-clause-by c =
    rw c.in-Uncut.is (by-uncut c.args.limits.now c.args.header.now c.args.frame.now.items c.as_slice-in-Uncut.result.now (entries c.args.parts.now.items) (entries c.as_slice-in-Uncut-2.result.now) c.uncut.result
    c.as_slice-in-Uncut.ensures.value (ap entries c.as_slice-in-Uncut-2.ensures.value) (omega (arith, c.requires.headed)) c.uncut.ensures.verdict)

pub returns-in-Apart-clause-by : goal.returns-in-Apart-clause-by
returns-in-Apart-clause-by c =
    rw c.in-Apart.is (by-apart c.args.limits.now c.args.header.now c.args.frame.now.items c.as_slice-in-Apart.result.now (entries c.args.parts.now.items) c.whole.result
    c.as_slice-in-Apart.ensures.value (omega (arith, c.requires.headed)) c.whole.ensures.verdict)
