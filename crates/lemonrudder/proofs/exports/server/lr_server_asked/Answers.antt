use Rattle.std.proofs.Common.{◌≡◌, ℕ, List, rules, subst}
use Rattle.lemonrudder.specs.Questions.{OnAsked}
use Rattle.lemonrudder.proofs.Doors.{by_server}
use Rattle.lemonrudder.proofs.exports.server.lr_server_asked.Goals as goal

pub returns-clause-does : goal.returns-clause-does
returns-clause-does c =
    let room : ◌≡◌ {A = List ℕ} c.server.new.call.0.now c.room-1.given.0 = search rules in
    by_server (OnAsked c.args.room.now c.room-1.given.0) _ _ _ _ c.server.ensures (search rules)
    (λ s t r did. subst (λ y. OnAsked c.args.room.now y s t r) room (subst (λ y. OnAsked c.args.room.now c.server.new.call.0.now y t r) did.shows (subst (λ y. OnAsked c.args.room.now c.server.new.call.0.now did.shown.now y r) did.leaves did.called.met.0.0)))
