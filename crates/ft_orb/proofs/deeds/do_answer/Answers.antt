use Rattle.std.proofs.Common.{ap, subst, sym}
use Rattle.ft_log.specs.Performed.{Performed}
use Rattle.ft_log.specs.View.{performed_in}
use Rattle.ft_orb.specs.declared.deeds.Deed.TheVariants as code
use Rattle.ft_orb.specs.Engines.{Awaited, CanAnswer, awaited_lent, waits_in}
use Rattle.ft_orb.specs.Standing.{note_of}
use Rattle.ft_orb.proofs.Acting.{answers-deed, awaiting}
use Rattle.ft_orb.proofs.deeds.do_answer.Goals as goal

pub returns-clause-ok : goal.returns-clause-ok
returns-clause-ok g c s h holds =
    let p = awaiting g.C.Catalogue.offers s h c.args.engine.now (awaited_lent c.in-Some.asked) holds (sym c.in-Some.ensures) in
    let x = p.0 in
    let late = c.answer.ensures.late s h.held h.calls h.past h.waiting x.a.moment x.a.octets x.a.written x.a.request x.asks in
    let offer = g.C.Catalogue.offers c.args.engine.now.offering.catalogue in
    let waits = waits_in c.args.engine.now in
    let was = subst (λ (v : Awaited). CanAnswer offer waits v.number (performed_in c.args.outcome.now)) (sym p.1) (c.can_answer.ensures.0 c.if-not-can_answer.false) in
    let can = subst (λ (o : Performed). CanAnswer offer waits x.a.request.number o) (sym c.in-Ok.ensures) was in
    let d = answers-deed g.C.Catalogue.offers s h c.args.engine.now c.answer.new.self x (performed_in c.in-Ok.copy) (note_of c.answer.result) c.new-octets.result.items c.answer.new.out.items c.new-octets.ensures.items late c.answer.ensures.parked c.answer.ensures.asks
    can
    c.in-Some.asked.connection (ap (λ (v : Awaited). v.connection) (sym p.1)) (code.Answer c.args.outcome.now) c.in-Ok.ensures in
    rw c.served-note.ensures d
