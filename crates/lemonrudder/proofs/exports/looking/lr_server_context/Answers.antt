use Rattle.std.proofs.Common.{◌≡◌, ℕ, List, rules, subst}
use Rattle.lemonrudder.specs.Looks.{OnContext}
use Rattle.lemonrudder.proofs.Doors.{by_server}
use Rattle.lemonrudder.proofs.exports.looking.lr_server_context.Goals as goal

pub returns-clause-copied : goal.returns-clause-copied
returns-clause-copied c =
    let id : ◌≡◌ {A = ℕ} c.server.new.call.1.now c.id-1.given.0 = search rules in
    let room : ◌≡◌ {A = List ℕ} c.server.new.call.2.now c.room-1.given.0 = search rules in
    by_server (OnContext c.args.index c.args.id.now c.id-1.given.0 c.args.room.now c.room-1.given.0) _ _ _ _ c.server.ensures (search rules)
    (λ s t r did. subst (λ y. OnContext c.args.index c.args.id.now y c.args.room.now c.room-1.given.0 s t r) id (subst (λ y. OnContext c.args.index c.args.id.now c.server.new.call.1.now c.args.room.now y s t r) room (subst (λ y. OnContext c.args.index c.args.id.now c.server.new.call.1.now c.args.room.now c.server.new.call.2.now y t r) did.shows (subst (λ y. OnContext c.args.index c.args.id.now c.server.new.call.1.now c.args.room.now c.server.new.call.2.now did.shown.now y r) did.leaves did.called.met.0.0))))
