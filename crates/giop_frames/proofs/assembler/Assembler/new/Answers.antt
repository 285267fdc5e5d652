use Rattle.std.proofs.Common.{false, refl, ap}
use Rattle.giop_frames.specs.Standing.{entries}
use Rattle.giop_frames.proofs.Holding.{sound-nothing, stands-nothing}
use Rattle.giop_frames.proofs.assembler.Assembler.new.Goals as goal

pub invariant_of-result : goal.invariant_of-result
invariant_of-result c = sound-nothing c.args.limits false c.new.result.items c.new-3.result (entries c.new-2.result.items) c.new.ensures.items (ap entries c.new-2.ensures.items)

pub returns-clause-stands : goal.returns-clause-stands
returns-clause-stands c = record { live = refl; stands = stands-nothing c.args.limits c.new.result.items (entries c.new-2.result.items) c.new.ensures.items (ap entries c.new-2.ensures.items) }
