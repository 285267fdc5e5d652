use Rattle.std.proofs.Common.{rules, subst}
use Rattle.lemonrudder.specs.Serves.{OnFeed}
use Rattle.lemonrudder.proofs.Doors.{by_server}
use Rattle.lemonrudder.proofs.exports.server.lr_server_feed.Goals as goal

pub returns : goal.returns
returns c = by_server (OnFeed c.args.connection c.args.moment c.args.octets.now) _ _ _ _ c.server.ensures (search rules) (λ s t r did. subst (λ y. OnFeed c.args.connection c.args.moment c.args.octets.now y t r) did.shows (subst (λ y. OnFeed c.args.connection c.args.moment c.args.octets.now did.shown.now y r) did.leaves (search rules)))
