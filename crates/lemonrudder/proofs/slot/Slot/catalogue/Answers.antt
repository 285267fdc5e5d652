use Rattle.std.proofs.Common.{rules, refl}
use Rattle.lemonrudder.proofs.Doors.{calls_catalogue}
use Rattle.lemonrudder.proofs.slot.Slot.catalogue.Goals as goal

pub returns : goal.returns
returns g c = calls_catalogue _ _ _ c.in-Catalogue.catalogue c.call.new.arg2 c.call.result (search rules) (search rules) (search rules) (record { shown = _; shows = search rules; left = _; called = c.call.ensures; leaves = refl })
