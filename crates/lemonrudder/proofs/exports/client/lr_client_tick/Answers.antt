use Rattle.std.proofs.Common.{rules}
use Rattle.lemonrudder.specs.Calls.{OnTick}
use Rattle.lemonrudder.proofs.Doors.{by_client}
use Rattle.lemonrudder.proofs.exports.client.lr_client_tick.Goals as goal

pub returns : goal.returns
returns c = by_client (OnTick c.args.now) _ _ _ _ c.client.ensures (search rules) (λ s t r did. search rules)
