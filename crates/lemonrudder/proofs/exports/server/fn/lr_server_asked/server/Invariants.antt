use Rattle.std.proofs.Common.{◌≡◌, IfOk, IsOk}
use Rattle.lemonrudder.specs.Questions.{OnAsked}
use Rattle.lemonrudder.proofs.exports.server.fn.lr_server_asked.server.Given as goal

abbrev pub ensures : goal.ensures
ensures l r = OnAsked l.room.entry.now l.room.exit.now l.server.entry.now l.server.exit.now r × IsOk r × IfOk r (λ n. n ≡ 0 → l.room.exit.now ≡ l.room.entry.now)
