use Rattle.std.proofs.Common.{◌≡◌, get_or, ap, arith, vec_len}
use Rattle.giop_proxy.specs.declared.passes.coming.Part.{Part}
use Rattle.giop_proxy.specs.PassingPrivate.{entries}
use Rattle.giop_proxy.proofs.PassingBounds.{held-more, parts-small}
use Rattle.giop_proxy.proofs.passes.parts_held.Goals as goal

pub overflow_add-held : goal.overflow_add-held
overflow_add-held c =
    let i = c.loop-part.part-index in
    let p = c.part-item.result in
    let one : vec_len p.message.octets ≡ vec_len (get_or c.args.parts.now i p).message.octets = ap (λ (q : Part). vec_len q.message.octets) c.part-item.is in
    let more = held-more c.args.parts.now i p (omega arith) in
    omega (arith, one, more, c.loop-part.invariant, c.len-held.ensures, parts-small c.args.limits.now (entries c.args.parts.now) c.requires)

pub loop-part-preserved : goal.loop-part-preserved
loop-part-preserved c =
    let i = c.loop-part.part-index in
    let p = c.part-item.result in
    let one : vec_len p.message.octets ≡ vec_len (get_or c.args.parts.now i p).message.octets = ap (λ (q : Part). vec_len q.message.octets) c.part-item.is in
    let more = held-more c.args.parts.now i p (omega arith) in
    omega (arith, one, more, c.loop-part.invariant, c.len-held.ensures)
