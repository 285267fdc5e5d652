use Rattle.std.proofs.Common.{◌≡◌, ℕ, zero, suc, ◌<◌, Option, None, Some, IfSome, refl, sym, ap, subst, ◌∙◌, arith}
use Rattle.ft_orb.specs.History as history
use Rattle.ft_orb.specs.declared.deeds.Deed.TheVariants as code
use Rattle.ft_orb.specs.declared.events.Event.TheVariants as happening
use Rattle.ft_orb.specs.declared.events.Note.{Note}
use Rattle.ft_orb.specs.Parking.{EndsLate, waits_on}
use Rattle.ft_orb.specs.Standing.{note_of_closing}
use Rattle.ft_orb.proofs.Acting.{ends-deed, resting, unawaited}
use Rattle.ft_orb.proofs.deeds.do_close.Goals as goal

none-left : (n : ℕ) → (0 < n → ⊥) → n ≡ 0
none-left zero none = refl
none-left (suc n) none = absurd (none (omega arith))

pub returns-clause-ok : goal.returns-clause-ok
returns-clause-ok g c s h holds =
    let r = resting g.C.Catalogue.offers s h c.args.engine.now holds c.requires.idle in
    let is : note_of_closing c.close.result ≡ Some c.in-Some.note = sym c.closed.ensures ∙ c.in-Some.is in
    let late = subst (λ (o : Option Note). IfSome o (λ (note : Note). EndsLate g.C.Catalogue.offers s h.held h.calls h.past h.waiting (history.Close c.args.connection) note c.close.new.self c.new-octets.result.items c.close.new.out.items)) is
    (c.close.ensures.late s h.held h.calls h.past h.waiting r.stays) in
    let none : waits_on c.args.engine.now c.args.connection ≡ 0 = none-left _ (λ some. let refused : None ≡ Some c.in-Some.note = ap note_of_closing (sym (c.close.ensures.waits.1 some)) ∙ is in cc) in
    ends-deed g.C.Catalogue.offers s h c.args.engine.now c.close.new.self r (history.Close c.args.connection) c.in-Some.note c.new-octets.result.items c.close.new.out.items c.new-octets.ensures.items late c.close.ensures.parked c.close.ensures.asks (unawaited g.C.Catalogue.offers s h c.args.engine.now r c.args.connection none)
    refl (code.Event (happening.Close c.args.connection)) refl
