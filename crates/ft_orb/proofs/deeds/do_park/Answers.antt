use Rattle.std.proofs.Common.{◌≡◌, ℕ, ◌≤◌, ◌<◌, ◌↔◌, ◌⊎◌, inl, inr, Option, IsSome, IfSome, Result, Err, refl, sym, subst, ◌∙◌}
use Rattle.std.proofs.lemmas.Bool.{cases_lt}
use Rattle.ft_objects.specs.Catalogues.{Offer}
use Rattle.ft_orb.specs.declared.deeds.Deed.TheVariants as code
use Rattle.ft_orb.specs.declared.deeds.DeedError.TheVariants as refused
use Rattle.ft_orb.specs.declared.engine.Engine.{Engine}
use Rattle.ft_orb.specs.declared.error.ParkError.{ParkError}
use Rattle.ft_orb.specs.declared.error.ParkError.TheVariants as unparked
use Rattle.ft_orb.specs.DeedsPlayed.{IsRefused}
use Rattle.ft_orb.specs.Engines.{Awaited, awaited_lent, waits_in}
use Rattle.ft_orb.specs.Parking.{parked_count, parked_of, places_of, places_of_one}
use Rattle.ft_orb.proofs.Acting.{awaiting, parks-deed, waits-on}
use Rattle.ft_orb.proofs.deeds.do_park.Goals as goal

less-by : (a b : ℕ) → (b ≤ a → ⊥) → a < b
less-by a b not = by (cases_lt a b)
  where
    by : (a < b) ⊎ (b ≤ a) → a < b
    by (inl less) = less
    by (inr most) = absurd (not most)

pub returns-in-Ok-clause-ok : goal.returns-in-Ok-clause-ok
returns-in-Ok-clause-ok g c s h holds =
    let p = awaiting g.C.Catalogue.offers s h c.args.engine.now (awaited_lent c.in-Some.asked) holds (sym c.in-Some.ensures) in
    let x = p.0 in
    let few : parked_count c.args.engine.now < places_of c.args.engine.now = less-by _ _ (λ full. let no = sym c.in-Ok.is ∙ c.park.ensures.full.1 full in cc) in
    let fair : parked_of c.args.engine.now x.a.request.connection < places_of_one c.args.engine.now = less-by _ _ (λ most.
    let here = subst (λ (o : Option Awaited). IfSome o (λ (w : Awaited). places_of_one c.args.engine.now ≤ parked_of c.args.engine.now w.connection)) (sym x.asks.asks.waits) most in
    let no = sym c.in-Ok.is ∙ c.park.ensures.share.1 (few, here) in
    cc) in
    let y = c.in-Ok.ensures.late s h.held h.calls h.past h.waiting x.a.moment x.a.octets x.a.written x.a.request x.asks in
    parks-deed g.C.Catalogue.offers s h c.args.engine.now c.park.new.self x y c.park.ensures.asks
    (rw p.1 c.in-Ok.ensures.parked) (rw p.1 c.in-Ok.ensures.others) few fair

-- why it was not parked, as the engine is then
why-unparked : {C : Type 0} (offers : C → Offer) (old new : Engine C) (r : Result (Unit {0}) ParkError) (why : ParkError) → r ≡ Err why → IsSome (waits_in new)
    → (r ≡ Err unparked.Full) ↔ (places_of old ≤ parked_count old)
    → (r ≡ Err unparked.Share) ↔ ((parked_count old < places_of old) × IfSome (waits_in old) (λ w. places_of_one old ≤ parked_of old w.connection))
    → ((r ≡ Err unparked.Full) ⊎ (r ≡ Err unparked.Share) → new ≡ old) → IsRefused offers new code.Park (refused.Unparked why)
why-unparked {C} offers old new r unparked.Full is waits full share same = (waits, subst (λ (e : Engine C). places_of e ≤ parked_count e) (sym (same (inl is))) (full.0 is))
why-unparked {C} offers old new r unparked.Share is waits full share same =
    let moved = subst (λ (e : Engine C). (parked_count e < places_of e) × IfSome (waits_in e) (λ (w : Awaited). places_of_one e ≤ parked_of e w.connection)) (sym (same (inr is))) (share.0 is) in
    (waits, moved.0, moved.1)
why-unparked offers old new r unparked.Memory is waits full share same = waits

pub returns-in-Err-clause-err : goal.returns-in-Err-clause-err
returns-in-Err-clause-err g c = (
  why-unparked g.C.Catalogue.offers c.args.engine.now c.park.new.self c.park.result c.in-Err.why c.in-Err.is (subst (λ (o : Option Awaited). IsSome o) (c.in-Some.ensures ∙ sym c.in-Err.ensures.err.0) refl) c.park.ensures.full c.park.ensures.share
      c.park.ensures.unchanged,
  λ s h holds.
      let p = awaiting g.C.Catalogue.offers s h c.args.engine.now (awaited_lent c.in-Some.asked) holds (sym c.in-Some.ensures) in
      let x = p.0 in
      waits-on g.C.Catalogue.offers s h c.args.engine.now c.park.new.self x (c.in-Err.ensures.kept s h.held h.calls h.past h.waiting x.a.moment x.a.octets x.a.written x.a.request x.asks) c.in-Err.ensures.err.1 c.park.ensures.asks,
)
