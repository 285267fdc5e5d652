use Rattle.lemonrudder.specs.Serves.{OnConnect}
use Rattle.lemonrudder.proofs.exports.server.fn.lr_server_connect.server.Given as goal

abbrev pub ensures : goal.ensures
ensures l r = OnConnect l.connection l.server.entry.now l.server.exit.now r
