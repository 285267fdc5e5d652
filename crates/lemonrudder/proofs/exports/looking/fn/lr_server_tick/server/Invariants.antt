use Rattle.lemonrudder.specs.Looks.{OnTick}
use Rattle.lemonrudder.proofs.exports.looking.fn.lr_server_tick.server.Given as goal

abbrev pub ensures : goal.ensures
ensures l r = OnTick l.moment l.server.entry.now l.server.exit.now r
