use Rattle.std.proofs.Common.{refl}
use Rattle.ft_orb.specs.Standing.{note_of}
use Rattle.ft_ends.proofs.Serving.{up-is}
use Rattle.ft_ends.proofs.wire.come_up.Goals as goal

pub returns-clause-fed : goal.returns-clause-fed
returns-clause-fed g c made past x stands held one =
    let t = c.feed.ensures.table made past stands in
    let o = c.feed.ensures.once made past stands in
    up-is g.S.Servant.meaning made c.tellings_are_written.ensures c.feed.new.self c.args.wire.now _ past x c.args.count c.args.now c.in-Some.number c.front-piece.result.now (note_of c.feed.result) c.in-Some.is c.front-piece.ensures
    c.in_ok-after_serving.ensures.ok t.3 (o.0, o.1, λ p. (o.2 p).0) refl refl c.pass.ensures held one
