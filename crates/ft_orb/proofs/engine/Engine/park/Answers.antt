use Rattle.std.proofs.Common.{◌≡◌, ◌==◌, ◌↔◌, ℕ, ◌<◌, ◌≤◌, List, false, Some, Option, Result, Err, IfSome, refl, sym, ap, ◌∙◌, arith, subst}
use Rattle.std.specs.BTreeMap.{get, is_at}
use Rattle.std.specs.Option.{option_map}
use Rattle.std.specs.Ordering.{nat_cmp}
use Rattle.ft_log.specs.Holding.{parked}
use Rattle.ft_log.specs.Logged.{logged}
use Rattle.ft_orb.specs.declared.engine.Engine.{Engine}
use Rattle.ft_orb.specs.declared.error.ParkError.{ParkError}
use Rattle.ft_orb.specs.declared.error.ParkError.TheVariants.{Share}
use Rattle.ft_orb.specs.declared.keeper.Waiting.{Waiting}
use Rattle.ft_orb.specs.declared.pausing.Pending.{Pending}
use Rattle.ft_orb.specs.Engines.{Awaited, IsOpen, awaited_of, pending_in, waits_in}
use Rattle.ft_orb.specs.Pause.{pending_by, pending_of}
use Rattle.ft_orb.specs.Parked.{own_waiters}
use Rattle.ft_orb.specs.Parking.{parked_count, parked_of, places_of, places_of_one}
use Rattle.ft_orb.specs.Waits.{kept_with}
use Rattle.ft_orb.proofs.Countings.{own-short}
use Rattle.ft_orb.proofs.Settling.{copy-kept, parks-late}
use Rattle.ft_orb.proofs.Streams.{on_ok-not}
use Rattle.ft_orb.proofs.Unmoved.{same-at}
use Rattle.ft_orb.proofs.Unparked.{kept-late}
use Rattle.std.specs.Map.{lookup}
use Rattle.ft_orb.specs.declared.parked.Parked.{Parked}
use Rattle.ft_orb.proofs.engine.Engine.park.Goals as goal

pub returns-clause-late : goal.returns-clause-late
returns-clause-late g c s held calls past waiting moment octets written w a =
    let x = pending_by c.replace.result c.in-Some.ask in
    let was : pending_in c.args.self.now ≡ Some x = ap (pending_of c.args.self.now.keeper.slot) c.in-Some.is ∙ ap (λ (w : Waiting). Some (pending_by w c.in-Some.ask)) (sym c.replace.ensures.value) in
    let number : w.number ≡ c.args.number = subst (λ o. IsOpen c.args.number o) a.asks.waits c.requires.open in
    let put = on_ok-not c.put.result (λ e is. c.in_default-put.not-Err e is) c.put.ensures.put in
    let kept = c.keep_parked.ensures.kept ∙ copy-kept x.waiting.retained c.in-Ok.own (parked c.args.number) (logged c.args.self.now.keeper.log).entries (rw c.replace.ensures.value c.in-Ok.ensures) in
    parks-late g.C.Catalogue.offers s c.streams_are_heard.ensures.stays held calls c.args.self.now _ past waiting moment octets written w x a was refl refl _ (ap (get nat_cmp c.put.new.self.requests) number ∙ put.0) (λ q n. put.1 q (subst (λ (k : ℕ). (q == k) ≡ false) number n)) refl (c.in-Ok-own_waiter.ensures ∙ ap (λ (w : Waiting). own_waiters c.in-Some.ask.connection w.asker) (sym c.replace.ensures.value))
    refl refl (record { limits = refl; capacity = c.keep_parked.ensures.capacity; share = c.keep_parked.ensures.share; greatest = refl; others = λ q n. refl }) c.keep_parked.ensures.clock refl (kept ∙ ap (λ (n : ℕ). kept_with x.waiting.retained (parked n) (logged c.args.self.now.keeper.log).entries) (sym number))

pub returns-clause-others : goal.returns-clause-others
returns-clause-others g c q apart =
    let put = on_ok-not c.put.result (λ e is. c.in_default-put.not-Err e is) c.put.ensures.put in
    same-at (get nat_cmp c.args.self.now.parked.requests) (get nat_cmp c.put.new.self.requests) q (put.1 q apart)

pub invariant_of-parked-clause-short : goal.invariant_of-parked-clause-short
invariant_of-parked-clause-short g c = own-short c.in-Some.ask.connection c.args.self.now.keeper.slot.asker c.in-Ok-own_waiter.waiters.items c.in-Ok-own_waiter.ensures

-- a connection that has room for what came on it is not refused for its share
within-share : {C : Type 0} (e : Engine C) (p : Pending) (r : Result (Unit {0}) ParkError) → pending_in e ≡ Some p → parked_of e p.connection < places_of_one e → (r ≡ Err Share → ⊥)
    → (r ≡ Err Share) ↔ ((parked_count e < places_of e) × IfSome (waits_in e) (λ w. places_of_one e ≤ parked_of e w.connection))
within-share e p r was less apart = (
  λ is. absurd (apart is),
  λ h. absurd (let full = subst (λ (o : Option Pending). IfSome (option_map awaited_of o) (λ (w : Awaited). places_of_one e ≤ parked_of e w.connection)) was h.1 in omega (arith, full, less)),
)

pub returns-in-Err-clause-share : goal.returns-in-Err-clause-share
returns-in-Err-clause-share g c =
    let count = c.count_of.ensures in
    let room = c.if-count_of-self.false in
    within-share c.args.self.now (pending_by c.args.self.now.keeper.slot c.in-Some.ask) _ (ap (pending_of c.args.self.now.keeper.slot) c.in-Some.is) (omega (arith, count, room)) (λ is. cc)

pub returns-clause-share : goal.returns-clause-share
returns-clause-share g c =
    let count = c.count_of.ensures in
    let room = c.if-count_of-self.false in
    within-share c.args.self.now (pending_by c.args.self.now.keeper.slot c.in-Some.ask) _ (ap (pending_of c.args.self.now.keeper.slot) c.in-Some.is) (omega (arith, count, room)) (λ is. cc)

pub returns-in-Err-clause-kept : goal.returns-in-Err-clause-kept
returns-in-Err-clause-kept g c s held calls past waiting moment octets written w a =
    let was : pending_in c.args.self.now ≡ Some (pending_by c.args.self.now.keeper.slot c.in-Some.ask) = ap (pending_of c.args.self.now.keeper.slot) c.in-Some.is in
    let same : pending_of c.in-Err.parked.pending.waiting (Some c.in-Some.ask) ≡ pending_in c.args.self.now = ap (λ (p : Parked). Some (pending_by p.pending.waiting c.in-Some.ask)) c.in-Err.ensures.back ∙ ap (λ (w : Waiting). Some (pending_by w c.in-Some.ask)) c.replace.ensures.value ∙ sym was in
    let parks : (q : ℕ) → get nat_cmp c.put.new.self.requests q ≡ get nat_cmp c.args.self.now.parked.requests q = λ q. ap (λ (es : List (ℕ × Parked)). lookup (is_at (nat_cmp q)) es) c.in-Err.ensures.err in
    kept-late g.C.Catalogue.offers s held calls c.args.self.now past waiting moment octets written w a _ refl refl refl refl refl refl same refl refl parks

pub returns-then-count_of-self-clause-kept : goal.returns-then-count_of-self-clause-kept
returns-then-count_of-self-clause-kept g c s held calls past waiting moment octets written w a =
    kept-late g.C.Catalogue.offers s held calls c.args.self.now past waiting moment octets written w a _ refl refl refl refl refl refl refl refl refl (λ q. refl)

pub returns-in_default-copy_of-clause-kept : goal.returns-in_default-copy_of-clause-kept
returns-in_default-copy_of-clause-kept g c s held calls past waiting moment octets written w a =
    kept-late g.C.Catalogue.offers s held calls c.args.self.now past waiting moment octets written w a _ refl refl refl refl refl refl refl refl refl (λ q. refl)

pub returns-in_default-own_waiter-clause-kept : goal.returns-in_default-own_waiter-clause-kept
returns-in_default-own_waiter-clause-kept g c s held calls past waiting moment octets written w a =
    kept-late g.C.Catalogue.offers s held calls c.args.self.now past waiting moment octets written w a _ refl refl refl refl refl refl refl refl refl (λ q. refl)
