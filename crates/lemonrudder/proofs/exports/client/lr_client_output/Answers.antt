use Rattle.std.proofs.Common.{rules}
use Rattle.lemonrudder.specs.Calls.{OnOutput}
use Rattle.lemonrudder.proofs.Doors.{by_client}
use Rattle.lemonrudder.proofs.exports.client.lr_client_output.Goals as goal

pub returns-clause-moved : goal.returns-clause-moved
returns-clause-moved c = by_client (OnOutput c.args.room.now _) _ _ _ _ c.client.ensures (search rules) (λ s t r did. search rules)
