use Rattle.std.proofs.Common.{rules}
use Rattle.lemonrudder.specs.Serves.{OnOutput}
use Rattle.lemonrudder.proofs.Doors.{by_server}
use Rattle.lemonrudder.proofs.exports.server.lr_server_output.Goals as goal

pub returns-clause-does : goal.returns-clause-does
returns-clause-does c = by_server (OnOutput c.args.connection c.args.room.now _) _ _ _ _ c.server.ensures (search rules) (λ s t r did. search rules)
