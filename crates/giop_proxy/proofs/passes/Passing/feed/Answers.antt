use Rattle.std.specs.Option.{option_map}
use Rattle.giop_proxy.specs.PassingPrivate.{entries, told_at}
use Rattle.giop_proxy.proofs.PassingBounds.{bounded}
use Rattle.giop_proxy.proofs.passes.Passing.feed.Goals as goal

pub returns-in-Ok-clause-bounded : goal.returns-in-Ok-clause-bounded
returns-in-Ok-clause-bounded c =
    bounded (record { frames = c.hear.new.frames; place = c.hear.new.place; parts = entries c.hear.new.parts.items; passed = c.hear.new.passed.items; told = option_map told_at c.in-Ok.heard.told })
    (c.in-Ok.ensures.held c.self.invariant.held.parts)
