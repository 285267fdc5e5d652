use Rattle.std.proofs.Common.{rules}
use Rattle.lemonrudder.specs.Resuming.{OnSkip}
use Rattle.lemonrudder.proofs.Doors.{by_client}
use Rattle.lemonrudder.proofs.exports.client.lr_client_skip_to.Goals as goal

pub returns : goal.returns
returns c = by_client (OnSkip c.args.call) _ _ _ _ c.client.ensures (search rules) (λ s t r did. search rules)
