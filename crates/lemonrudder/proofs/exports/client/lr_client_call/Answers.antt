use Rattle.std.proofs.Common.{rules}
use Rattle.lemonrudder.specs.Invokes.{OnCall, question}
use Rattle.lemonrudder.proofs.Doors.{by_client}
use Rattle.lemonrudder.proofs.exports.client.lr_client_call.Goals as goal

pub returns : goal.returns
returns c = by_client (OnCall c.args.now c.args.expiration (question c.args.key.now c.args.operation.now c.args.types.now c.args.order c.args.arguments.now)) _ _ _ _ c.client.ensures (search rules) (λ s t r did. search rules)
