use Rattle.std.proofs.Common.{rules}
use Rattle.lemonrudder.specs.Calls.{OnCancel}
use Rattle.lemonrudder.proofs.Doors.{by_client}
use Rattle.lemonrudder.proofs.exports.client.lr_client_cancel.Goals as goal

pub returns : goal.returns
returns c = by_client (OnCancel c.args.call) _ _ _ _ c.client.ensures (search rules) (λ s t r did. search rules)
