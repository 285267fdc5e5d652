use Rattle.std.proofs.Common.{rules}
use Rattle.lemonrudder.specs.Invokes.{question}
use Rattle.lemonrudder.specs.Resuming.{OnRedirect}
use Rattle.lemonrudder.proofs.Doors.{by_client}
use Rattle.lemonrudder.proofs.exports.client.lr_client_redirect.Goals as goal

pub returns : goal.returns
returns c = by_client (OnRedirect c.args.call (question c.args.key.now c.args.operation.now c.args.types.now c.args.order c.args.arguments.now)) _ _ _ _ c.client.ensures (search rules) (λ s t r did. search rules)
