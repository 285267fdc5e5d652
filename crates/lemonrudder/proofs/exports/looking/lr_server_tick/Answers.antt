use Rattle.std.proofs.Common.{rules, subst}
use Rattle.lemonrudder.specs.Looks.{OnTick}
use Rattle.lemonrudder.proofs.Doors.{by_server}
use Rattle.lemonrudder.proofs.exports.looking.lr_server_tick.Goals as goal

pub returns : goal.returns
returns c = by_server (OnTick c.args.moment) _ _ _ _ c.server.ensures (search rules) (λ s t r did. subst (λ y. OnTick c.args.moment y t r) did.shows (subst (λ y. OnTick c.args.moment did.shown.now y r) did.leaves (search rules)))
