use Rattle.lemonrudder.specs.Serves.{OnLost}
use Rattle.lemonrudder.proofs.exports.server.fn.lr_server_lost.server.Given as goal

abbrev pub ensures : goal.ensures
ensures l r = OnLost l.connection l.server.entry.now l.server.exit.now r
