use Rattle.std.proofs.Common.{rules, refl}
use Rattle.lemonrudder.proofs.Doors.{calls_assembler}
use Rattle.lemonrudder.proofs.slot.Slot.assembler.Goals as goal

pub returns : goal.returns
returns g c = calls_assembler _ _ _ c.in-Assembler.assembler c.call.new.arg2 c.call.result (search rules) (search rules) (search rules) (record { shown = _; shows = search rules; left = _; called = c.call.ensures; leaves = refl })
