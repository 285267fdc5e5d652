use Rattle.std.proofs.Common.{rules, refl}
use Rattle.lemonrudder.proofs.Doors.{calls_client}
use Rattle.lemonrudder.proofs.slot.Slot.client.Goals as goal

pub returns : goal.returns
returns g c = calls_client _ _ _ c.in-Client.client c.call.new.arg2 c.call.result (search rules) (search rules) (search rules) (record { shown = _; shows = search rules; left = _; called = c.call.ensures; leaves = refl })
