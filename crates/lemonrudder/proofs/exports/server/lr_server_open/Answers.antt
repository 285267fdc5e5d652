use Rattle.std.proofs.Common.{Ok, Err, refl, rules}
use Rattle.lemonrudder.proofs.Hosting.{not_held, opens_server}
use Rattle.lemonrudder.proofs.exports.server.lr_server_open.Goals as goal

pub returns-in-Ok : goal.returns-in-Ok
returns-in-Ok c =
    opens_server _ _ _ _ _ (Ok c.in-Ok.object.value) _ (not_held _ _ c.is_empty.ensures c.if-not-is_empty.false) c.in-Ok.ensures (refl, c.put.ensures)

pub returns-in-Err : goal.returns-in-Err
returns-in-Err c =
    let none = not_held _ _ c.is_empty.ensures c.if-not-is_empty.false in
    opens_server _ _ _ _ _ (Err c.in-Err.refusal) _ none c.in-Err.ensures (search rules, none)
