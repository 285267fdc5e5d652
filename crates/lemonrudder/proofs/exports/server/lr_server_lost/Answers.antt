use Rattle.std.proofs.Common.{rules, subst}
use Rattle.lemonrudder.specs.Serves.{OnLost}
use Rattle.lemonrudder.proofs.Doors.{by_server}
use Rattle.lemonrudder.proofs.exports.server.lr_server_lost.Goals as goal

pub returns : goal.returns
returns c = by_server (OnLost c.args.connection) _ _ _ _ c.server.ensures (search rules) (λ s t r did. subst (λ y. OnLost c.args.connection y t r) did.shows (subst (λ y. OnLost c.args.connection did.shown.now y r) did.leaves (search rules)))
