use Rattle.std.proofs.Common.{ap, refl, sym}
use Rattle.ft_log.specs.View.{performed_in}
use Rattle.ft_orb.specs.declared.deeds.Deed.TheVariants as code
use Rattle.ft_orb.specs.Engines.{Awaited, awaited_lent, handled_in}
use Rattle.ft_orb.proofs.Acting.{awaiting, tells-as}
use Rattle.ft_orb.proofs.telling.do_tell.Goals as goal

pub returns-clause-ok : goal.returns-clause-ok
returns-clause-ok g c s h holds =
    let p = awaiting g.C.Catalogue.offers s h c.args.engine.now (awaited_lent c.in-Some.asked) holds (sym c.in-Some.ensures) in
    let x = p.0 in
    let d = tells-as g.C.Catalogue.offers s h c.args.engine.now c.tell.new.self x (performed_in c.args.outcome.now) (c.is_renderable.ensures.0 c.if-not-is_renderable.false) (handled_in c.args.engine.now)
    c.new-octets.result.items c.tell.new.out.items c.new-octets.ensures.items c.tell.result
    c.tell.ensures.late (λ f. f s h.held h.calls h.past h.waiting x.a.moment x.a.octets x.a.written x.a.request x.asks)
    c.tell.ensures.given_up (λ f. f s h.held h.calls h.past h.waiting x.a.moment x.a.octets x.a.written x.a.request x.asks)
    c.tell.ensures.due (λ f. f s h.held h.calls h.past h.waiting x.a.moment x.a.octets x.a.written x.a.request x.asks)
    c.tell.ensures.counts (λ f. f s h.held h.calls h.past h.waiting x.a.moment x.a.octets x.a.written x.a.request x.asks)
    c.tell.ensures.err c.tell.ensures.unwritten c.tell.ensures.parked c.tell.ensures.asks c.in-Some.asked.connection (ap (λ (v : Awaited). v.connection) (sym p.1))
    (code.Tell c.args.outcome.now) refl (λ due. due) in
    rw c.served-note.ensures d
