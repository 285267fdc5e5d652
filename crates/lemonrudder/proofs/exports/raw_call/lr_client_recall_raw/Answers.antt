use Rattle.std.proofs.Common.{rules}
use Rattle.lemonrudder.specs.RawCalls.{OnRecallRaw, raw_question}
use Rattle.lemonrudder.proofs.Doors.{by_client}
use Rattle.lemonrudder.proofs.exports.raw_call.lr_client_recall_raw.Goals as goal

pub returns : goal.returns
returns c = by_client (OnRecallRaw c.args.call c.args.now c.args.expiration (raw_question c.args.wish c.args.key.now c.args.operation.now c.args.order c.args.contexts.now c.args.body.now)) _ _ _ _ c.client.ensures (search rules) (λ s t r did. search rules)
