use Rattle.std.proofs.Common.{◌∷◌, take, sym, ap, ◌∙◌, subst}
use Rattle.ft_client.specs.Clients.{Fed, after}
use Rattle.ft_client.specs.Directions.{stream}
use Rattle.ft_client.specs.Standing.{FtStands, down}
use Rattle.ft_orb.specs.History.{Lost}
use Rattle.ft_orb.specs.Standing.{Stands}
use Rattle.ft_ends.specs.Private.{tells}
use Rattle.ft_orb.specs.Tellings.{octets_told}
use Rattle.ft_ends.proofs.Serving.{left-is, stayed-is}
use Rattle.ft_ends.proofs.Ways.{its-number, way-left}
use Rattle.ft_ends.proofs.wire.come_down.Goals as goal

pub returns-then-is_connected-clause-fed : goal.returns-then-is_connected-clause-fed
returns-then-is_connected-clause-fed g c made past opened m x stands is_client held =
    let meaning = g.S.Servant.meaning in
    let piece = c.front.ensures ∙ ap (take c.args.count) (sym (way-left c.args.wire.now.down (stream octets_told (tells meaning made past x.number)) x.came held.down)) in
    let fed = subst (λ o. FtStands c.feed.new.self (after (down m.life.client.limits) (Fed o) m.life.client)) piece (c.in_ok-feed.ensures.stands m.life.client is_client) in
    let connected = sym (c.is_connected.ensures.stands _ fed) ∙ c.if-is_connected.true in
    stayed-is meaning made c.args.server.now c.feed.new.self _ past opened m.life x c.args.count stands fed connected
    (record { number = held.number; up = held.up; down = c.pass.ensures (stream octets_told (tells meaning made past x.number)) x.came held.down })

pub returns-else-is_connected-clause-fed : goal.returns-else-is_connected-clause-fed
returns-else-is_connected-clause-fed g c made past opened m x stands is_client held =
    let meaning = g.S.Servant.meaning in
    let piece = c.front.ensures ∙ ap (take c.args.count) (sym (way-left c.args.wire.now.down (stream octets_told (tells meaning made past x.number)) x.came held.down)) in
    let fed = subst (λ o. FtStands c.feed.new.self (after (down m.life.client.limits) (Fed o) m.life.client)) piece (c.in_ok-feed.ensures.stands m.life.client is_client) in
    let gone = sym (c.is_connected.ensures.stands _ fed) ∙ c.if-is_connected.false in
    let lost = subst (λ d. Stands meaning made c.lost.new.self (Lost d ∷ past)) (its-number (tells meaning made past) c.args.wire.now x c.in-Some.number c.in-Some.is held) (c.lost.ensures.table made past stands) in
    left-is meaning made c.lost.new.self c.feed.new.self c.leave.new.self past opened m.life x c.args.count lost fed gone c.leave.ensures
