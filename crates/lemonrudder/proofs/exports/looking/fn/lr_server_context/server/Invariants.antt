use Rattle.std.proofs.Common.{◌≡◌, OnErr}
use Rattle.lemonrudder.specs.Looks.{OnContext}
use Rattle.lemonrudder.proofs.exports.looking.fn.lr_server_context.server.Given as goal

abbrev pub ensures : goal.ensures
ensures l r = OnContext l.index l.id.entry.now l.id.exit.now l.room.entry.now l.room.exit.now l.server.entry.now l.server.exit.now r × OnErr r ((l.id.exit.now ≡ l.id.entry.now) × (l.room.exit.now ≡ l.room.entry.now))
