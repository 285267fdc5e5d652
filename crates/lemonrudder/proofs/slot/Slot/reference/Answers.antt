use Rattle.std.proofs.Common.{rules, refl}
use Rattle.lemonrudder.proofs.Doors.{calls_reference}
use Rattle.lemonrudder.proofs.slot.Slot.reference.Goals as goal

pub returns : goal.returns
returns g c = calls_reference _ _ _ c.in-Reference.reference c.call.new.arg2 c.call.result (search rules) (search rules) (search rules) (record { shown = _; shows = search rules; left = _; called = c.call.ensures; leaves = refl })
