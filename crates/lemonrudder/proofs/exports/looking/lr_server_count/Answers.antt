use Rattle.std.proofs.Common.{rules}
use Rattle.lemonrudder.specs.Looks.{OnCount}
use Rattle.lemonrudder.proofs.Doors.{by_server}
use Rattle.lemonrudder.proofs.exports.looking.lr_server_count.Goals as goal

pub returns : goal.returns
returns c = by_server (OnCount c.args.what) _ _ _ _ c.server.ensures (search rules) (λ s t r did. search rules)
