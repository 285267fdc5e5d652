use Rattle.std.proofs.Common.{not, false, true, arith}
use Rattle.std.proofs.lemmas.Result.{IfOk-weaker}
use Rattle.giop_frames.specs.Fragments.{has_id, may_come}
use Rattle.giop_frames.specs.Standing.{entries}
use Rattle.giop_frames.proofs.Judging.{early-at, long-at, settled-by, settled-short, settled-twice, short-at}
use Rattle.giop_frames.proofs.reassembly.settle.Goals as goal

pub returns-then-interrupts-clause-by : goal.returns-then-interrupts-clause-by
returns-then-interrupts-clause-by c =
    let r = c.role_of-role.result in
    let h = c.args.header.now in
    settled-twice c.args.limits.now h c.args.frame.now.items _ _ _ r c.role_of-role.ensures (early-at (not (may_come r h.version)) true c.args.parts.now.items c.as_slice.result.now c.as_slice.ensures.value c.if-interrupts.ensures)

pub returns-then-lacks_id-clause-by : goal.returns-then-lacks_id-clause-by
returns-then-lacks_id-clause-by c =
    let r = c.role_of-role.result in
    let h = c.args.header.now in
    settled-short c.args.limits.now h c.args.frame.now.items _ _ _ r c.role_of-role.ensures (early-at (not (may_come r h.version)) false c.args.parts.now.items c.as_slice.result.now c.as_slice.ensures.value c.if-interrupts.ensures)
    (short-at h c.args.frame.now.items c.as_slice-2.result.now (has_id r h.version) true c.as_slice-2.ensures.value c.if-lacks_id.ensures)

pub settle_as-requires-clause-long : goal.settle_as-requires-clause-long
settle_as-requires-clause-long c = λ t. omega (arith, long-at c.args.frame.now.items c.as_slice-2.result.now (has_id c.role_of-role.result c.args.header.now.version) c.as_slice-2.ensures.value c.if-lacks_id.ensures t)

pub returns-clause-by : goal.returns-clause-by
returns-clause-by c =
    let r = c.role_of-role.result in
    let h = c.args.header.now in
    IfOk-weaker c.settle_as.result _ _
    (λ s l. settled-by c.args.limits.now h c.args.frame.now.items c.settle_as.new.frame.items (entries c.args.parts.now.items) (entries c.settle_as.new.parts.items) r s c.role_of-role.ensures
    (early-at (not (may_come r h.version)) false c.args.parts.now.items c.as_slice.result.now c.as_slice.ensures.value c.if-interrupts.ensures)
    (short-at h c.args.frame.now.items c.as_slice-2.result.now (has_id r h.version) false c.as_slice-2.ensures.value c.if-lacks_id.ensures) l)
    c.settle_as.ensures.by
