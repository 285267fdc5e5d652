use Rattle.std.proofs.Common.{arith}
use Rattle.giop_proxy.specs.PlacingPrivate.{fields_for, kind_of}
use Rattle.giop_proxy.proofs.Appended.{ended-at}
use Rattle.giop_proxy.proofs.placed.append.Goals as goal

pub returns : goal.returns
returns c =
    let a = c.args in
    let f = a.fields.now in
    let h = c.in_ok-begin_placed.ensures in
    ended-at a.version (kind_of f) a.order a.limit a.place a.body.now (fields_for a.version f a.place a.body.now) h.0 a.out.now.items c.begin_placed.new.out.items h.1 h.2 c.len-start.result (omega (arith, c.len-start.ensures, a.out.now.ok.0)) c.kind.result c.kind.ensures.is
    c.finish.result c.finish.new.out.items c.finish.ensures
