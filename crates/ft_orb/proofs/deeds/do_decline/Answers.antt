use Rattle.std.proofs.Common.{ap, refl, sym}
use Rattle.ft_log.specs.declared.system_exception.Completion.TheVariants.{No}
use Rattle.ft_objects.specs.facts.Sizes.{system_is_renderable}
use Rattle.ft_orb.specs.declared.deeds.Deed.TheVariants as code
use Rattle.ft_orb.specs.Engines.{Awaited, awaited_lent, handled_in}
use Rattle.ft_orb.specs.Parking.{not_now}
use Rattle.ft_orb.proofs.Acting.{awaiting, tells-as}
use Rattle.ft_orb.proofs.deeds.do_decline.Goals as goal

pub returns-clause-ok : goal.returns-clause-ok
returns-clause-ok g c s h holds =
    let p = awaiting g.C.Catalogue.offers s h c.args.engine.now (awaited_lent c.in-Some.asked) holds (sym c.in-Some.ensures) in
    let x = p.0 in
    let d = tells-as g.C.Catalogue.offers s h c.args.engine.now c.decline.new.self x (not_now c.args.name c.args.minor) (system_is_renderable c.args.name c.args.minor No) (handled_in c.args.engine.now)
    c.new-octets.result.items c.decline.new.out.items c.new-octets.ensures.items c.decline.result
    c.decline.ensures.late (λ f. f s h.held h.calls h.past h.waiting x.a.moment x.a.octets x.a.written x.a.request x.asks)
    c.decline.ensures.given_up (λ f. f s h.held h.calls h.past h.waiting x.a.moment x.a.octets x.a.written x.a.request x.asks)
    c.decline.ensures.due (λ f. f s h.held h.calls h.past h.waiting x.a.moment x.a.octets x.a.written x.a.request x.asks)
    c.decline.ensures.counts (λ f. f s h.held h.calls h.past h.waiting x.a.moment x.a.octets x.a.written x.a.request x.asks)
    c.decline.ensures.err c.decline.ensures.unwritten c.decline.ensures.parked c.decline.ensures.asks c.in-Some.asked.connection (ap (λ (v : Awaited). v.connection) (sym p.1))
    (code.Decline c.args.name c.args.minor) refl (λ due. due) in
    rw c.served-note.ensures d
