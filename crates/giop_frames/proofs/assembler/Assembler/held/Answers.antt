use Rattle.std.proofs.Common.{◌≡◌, length, ap, ◌∙◌, arith}
use Rattle.giop_frames.specs.Standing.{entries, parts_held}
use Rattle.giop_frames.proofs.Holding.{bounded, held-fits}
use Rattle.giop_frames.proofs.assembler.Assembler.held.Goals as goal

pub overflow_add-result : goal.overflow_add-result
overflow_add-result c =
    let a = c.self.inside in
    let frame : c.len.result ≡ length a.frame.items = omega (arith, c.len.ensures) in
    let parts : c.parts_held.result ≡ parts_held (entries a.parts.items) = c.parts_held.ensures ∙ ap (λ ps. parts_held (entries ps)) c.as_slice.ensures.value in
    omega (arith, held-fits a.limits a.complete a.frame.items a.needed (entries a.parts.items) c.len.result c.parts_held.result frame parts c.self.invariant.needs c.self.invariant.kept c.self.invariant.within)

pub returns-clause-bounded : goal.returns-clause-bounded
returns-clause-bounded c =
    let a = c.self.inside in
    rw (← c.self.view_is) (bounded a.limits a.failed a.complete a.frame.items a.needed (entries a.parts.items) c.self.invariant.needs c.self.invariant.kept c.self.invariant.within)
