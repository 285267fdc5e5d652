use Rattle.std.proofs.Common.{rules, refl}
use Rattle.lemonrudder.proofs.Doors.{calls_server}
use Rattle.lemonrudder.proofs.slot.Slot.server.Goals as goal

pub returns : goal.returns
returns g c = calls_server _ _ _ c.in-Server.server c.call.new.arg2 c.call.result (search rules) (search rules) (search rules) (record { shown = _; shows = search rules; left = _; called = c.call.ensures; leaves = refl })
