use Rattle.std.proofs.Common.{◌≡◌, ap, ◌∙◌, arith}
use Rattle.std.specs.Option.{option_map}
use Rattle.giop_proxy.specs.PassingMessages.{parts_held}
use Rattle.giop_proxy.specs.PassingPrivate.{entries, told_at}
use Rattle.giop_proxy.proofs.PassingBounds.{bounded, parts-small}
use Rattle.giop_proxy.proofs.passes.Passing.held.Goals as goal

pub overflow_add-result : goal.overflow_add-result
overflow_add-result c =
    let a = c.self.inside in
    let range = a.frames.limits.message_in_range in
    let parts : c.parts_held.result ≡ parts_held (entries a.parts.items) = c.parts_held.ensures ∙ ap (λ ps. parts_held (entries ps)) c.as_slice.ensures.value in
    omega (arith, range.1, c.held.ensures.octets, c.told_held.ensures, c.self.invariant.held.front, parts, parts-small a.frames.limits (entries a.parts.items) c.self.invariant.held.parts)

pub returns-clause-bounded : goal.returns-clause-bounded
returns-clause-bounded c =
    let a = c.self.inside in
    rw (← c.self.view_is) (bounded (record { frames = a.frames; place = a.place; parts = entries a.parts.items; passed = a.passed.items; told = option_map told_at a.told }) c.self.invariant.held)
