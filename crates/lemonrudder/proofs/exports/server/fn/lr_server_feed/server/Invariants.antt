use Rattle.lemonrudder.specs.Serves.{OnFeed}
use Rattle.lemonrudder.proofs.exports.server.fn.lr_server_feed.server.Given as goal

abbrev pub ensures : goal.ensures
ensures l r = OnFeed l.connection l.moment l.octets.entry.now l.server.entry.now l.server.exit.now r
