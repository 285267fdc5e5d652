use Rattle.std.proofs.Common.{refl, sym, subst, w32, rules}
use mir.Val.{SFits}
use Rattle.std.proofs.lemmas.Int.{to_z-of_z}
use Rattle.std.proofs.lemmas.Result.{on_ok_weaker}
use Rattle.ft_client.specs.Clients.{Redirected, after, find_pending, recalled, says_recalled}
use Rattle.ft_client.specs.Standing.{FtStands, down}
use Rattle.ft_ends.specs.Private.{IsWireFor, tells}
use Rattle.ft_ends.specs.World.{extended}
use Rattle.ft_ends.proofs.Moving.{connect-moved, cut-moved, ok-both, shut-moved, up-moved}
use Rattle.ft_ends.proofs.Ways.{extended-nothing}
use Rattle.ft_ends.proofs.playing.take_step.Goals as goal

pub returns-in-Connect-clause-moved : goal.returns-in-Connect-clause-moved
returns-in-Connect-clause-moved g c = rw c.in-Connect.is (ok-both c.connected.result (λ joined idle made past m h settled noted.
    connect-moved g.S.Servant.meaning made past c.args.opened.now m c.in-Connect.now c.connected.new.opened c.args.server.now c.connected.new.server c.args.client.now c.connected.new.client c.args.post.now.wire c.connected.new.wire
    (joined made past m.life.client) (idle m.life.client) settled.linked settled.fresh h) c.connected.ensures.joined c.connected.ensures.idle)

pub returns-in-Up-clause-moved : goal.returns-in-Up-clause-moved
returns-in-Up-clause-moved g c = rw c.in-Up.is (ok-both c.come_up.result (λ fed idle made past m h settled noted.
    up-moved g.S.Servant.meaning made past c.args.opened.now m c.in-Up.count c.in-Up.now c.args.server.now c.come_up.new.server c.args.client.now c.args.post.now.wire c.come_up.new.wire (fed made past) idle h settled.once)
    c.come_up.ensures.fed c.come_up.ensures.idle)

pub returns-in-Cut-clause-moved : goal.returns-in-Cut-clause-moved
returns-in-Cut-clause-moved g c = rw c.in-Cut.is (λ made past m h settled noted.
    cut-moved g.S.Servant.meaning made past c.args.opened.now m c.args.server.now c.cut.new.server c.args.client.now c.cut.new.client c.args.post.now.wire c.cut.new.wire (λ x. c.cut.ensures.cut made past m.life.client x) c.cut.ensures.idle h)

pub returns-in-Shut-clause-moved : goal.returns-in-Shut-clause-moved
returns-in-Shut-clause-moved g c = rw c.in-Shut.is (ok-both c.closed.result (λ shut idle made past m h settled noted.
    shut-moved g.S.Servant.meaning made past c.args.opened.now m c.args.server.now c.closed.new.server c.args.client.now c.args.post.now.wire c.closed.new.wire (shut made past) idle h) c.closed.ensures.shut c.closed.ensures.idle)

pub returns-in-Cancel-clause-moved : goal.returns-in-Cancel-clause-moved
returns-in-Cancel-clause-moved g c = rw c.in-Cancel.is (on_ok_weaker c.cancelled.result (λ f made past m h settled noted.
    let r = f (tells g.S.Servant.meaning made past) m.life.client m.wire h.client_is settled.linked h.wire_is in
    let fits : SFits w32 c.in-Cancel.id = search rules in
    let same = to_z-of_z w32 c.in-Cancel.id fits in
    let p = subst (λ z. FtStands c.cancelled.new.client (recalled (find_pending z m.life.client.pending) m.life.client) × IsWireFor (tells g.S.Servant.meaning made past) c.cancelled.new.wire (extended (says_recalled m.life.client.version (find_pending z m.life.client.pending)) m.wire)) same r in
    (record { server_is = h.server_is; client_is = p.0; wire_is = p.1 }, refl)) c.cancelled.ensures)

pub returns-in-Redirect-clause-moved : goal.returns-in-Redirect-clause-moved
returns-in-Redirect-clause-moved g c = rw c.in-Redirect.is (on_ok_weaker c.redirected.result (λ f made past m h settled noted.
    let one = m.life.client in
    let fits : SFits w32 c.in-Redirect.id = search rules in
    let same = to_z-of_z w32 c.in-Redirect.id fits in
    let r = f one m.life.calls h.client_is noted settled.called in
    let client_is =
    subst (λ key. FtStands c.redirected.new.client (after (down one.limits) (Redirected c.in-Redirect.id key) one)) c.deref.ensures.value
    (subst (λ z. FtStands c.redirected.new.client (after (down one.limits) (Redirected z c.deref.result.now) one)) same r) in
    let wire_is = subst (λ o. IsWireFor (tells g.S.Servant.meaning made past) c.args.post.now.wire o) (sym (extended-nothing m.wire)) h.wire_is in
    (record { server_is = h.server_is; client_is = client_is; wire_is = wire_is }, refl)) c.redirected.ensures)
