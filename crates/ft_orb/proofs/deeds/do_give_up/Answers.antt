use Rattle.std.proofs.Common.{ap, sym}
use Rattle.ft_orb.specs.declared.deeds.Deed.TheVariants as code
use Rattle.ft_orb.specs.Engines.{Awaited, awaited_lent}
use Rattle.ft_orb.proofs.Acting.{awaiting, gives-up-deed}
use Rattle.ft_orb.proofs.deeds.do_give_up.Goals as goal

pub returns-clause-ok : goal.returns-clause-ok
returns-clause-ok g c s h holds =
    let p = awaiting g.C.Catalogue.offers s h c.args.engine.now (awaited_lent c.in-Some.asked) holds (sym c.in-Some.ensures) in
    let x = p.0 in
    let late = c.give_up-handled.ensures.late s h.held h.calls h.past h.waiting x.a.moment x.a.octets x.a.written x.a.request x.asks in
    let d = gives-up-deed g.C.Catalogue.offers s h c.args.engine.now c.give_up-handled.new.self x c.give_up-handled.result late c.give_up-handled.ensures.parked c.give_up-handled.ensures.asks
    (c.give_up-handled.ensures.counts s h.held h.calls h.past h.waiting x.a.moment x.a.octets x.a.written x.a.request x.asks) c.in-Some.asked.connection (ap (λ (v : Awaited). v.connection) (sym p.1)) code.GiveUp tt in
    rw c.new.ensures.items d
