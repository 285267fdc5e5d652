use Rattle.std.proofs.Common.{refl, ap}
use Rattle.giop_proxy.specs.Passing.{split}
use Rattle.giop_proxy.specs.PassingMessages.{reading_of}
use Rattle.giop_proxy.specs.PassingPrivate.{entries}
use Rattle.giop_proxy.proofs.passes.Passing.new.Goals as goal

pub returns-clause-stands : goal.returns-clause-stands
unfolding reading_of split
returns-clause-stands c = record { frames = c.new.ensures.stands; place = refl; parts = ap entries c.new-2.ensures.items; passed = c.new-3.ensures.items }
