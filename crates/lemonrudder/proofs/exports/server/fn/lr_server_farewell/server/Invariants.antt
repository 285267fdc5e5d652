use Rattle.lemonrudder.specs.Serves.{OnFarewell}
use Rattle.lemonrudder.proofs.exports.server.fn.lr_server_farewell.server.Given as goal

abbrev pub ensures : goal.ensures
ensures l r = OnFarewell l.connection l.server.entry.now l.server.exit.now r
