use Rattle.std.proofs.Common.{◌≡◌, cond, List, true, false, ℕ, ℤ, Some, refl, sym, ap, ◌∙◌, subst, is_some, map, rules, arith}
use Rattle.std.proofs.lemmas.Int.{to_z-of_z}
use Rattle.std.proofs.lemmas.Grind.{common_steps}
use Rattle.std.specs.Option.{option_copied_mut}
use mir.Syntax.{w32}
use mir.Val.{SFits, of_z, to_z}
use Rattle.indexmap.specs.IndexMap.{get_by}
use Rattle.ft_log.specs.Kept.{is_parked}
use Rattle.ft_log.specs.Keys.{RequestKey, same_key}
use Rattle.ft_log.specs.Maps.{Outcomes, slot_of, under}
use Rattle.ft_log.specs.Names.{is_named}
use Rattle.ft_log.specs.View.{holding_in}
use Rattle.ft_log.specs.declared.shelf.Kept.{Kept}
use Rattle.ft_log.proofs.Filling.{put-no-is, put-yes-is, refilled-set, under-filled}
use Rattle.ft_log.proofs.Listed.{same_is}
use Rattle.ft_log.proofs.Named.{under_key}
use Rattle.ft_log.proofs.shelf.refill.Goals as goal

pub returns-then-eq-clause-kept : goal.returns-then-eq-clause-kept
returns-then-eq-clause-kept c = λ other.
    let z : ℤ = c.args.key.retention_id in
    let fits : SFits w32 z = search rules in
    let k : Kept = c.in-Some.kept.now in
    let w : Kept = record { slot = k.slot; until = k.until; outcome = c.args.outcome } in
    let m : Outcomes = c.args.outcomes.now in
    let n : Outcomes = c.get_mut.follows.lender w in
    let key : ℤ → RequestKey = λ r. record { client_id = c.args.key.client_id.items; retention_id = r } in
    let there = sym (ap is_some c.get_mut.ensures.value) ∙ ap (λ o. is_some (option_copied_mut o)) c.in-Some.is in
    let up = rw c.as_slice.ensures.value at ((c.get_mut.follows.holds w).3 there) in
    let found : under m (key (to_z w32 (of_z w32 z))) ≡ Some k = ap (λ (l : List ℕ). get_by (is_named l (Some (to_z w32 (of_z w32 z)))) m) (sym c.as_slice.ensures.value) ∙ sym c.get_mut.ensures.value ∙ ap (λ o. option_copied_mut o) c.in-Some.is in
    let P : ℤ → Type 0 = λ r. under n other ≡ cond (same_key other (key r)) (Some w) (under m other) in
    let Q : ℤ → Type 0 = λ r. under m (key r) ≡ Some k in
    let now = subst P (to_z-of_z w32 z fits) (under_key _ (λ x y. refl) m n (Some w) (key (to_z w32 (of_z w32 z))) up.1 up.3 other) in
    let was = subst Q (to_z-of_z w32 z fits) found in
    let is : is_parked c.args.number (holding_in k.outcome) ≡ true = grind (arith, common_steps) in
    under-filled c.args.number c.args.outcome (same_key other (key z)) (under m other) (under n other) k w (λ same. ap (λ (r : RequestKey). under m r) (same_is other (key z) same) ∙ was) now (put-yes-is c.args.number c.args.outcome k is)

pub returns-in-Some-clause-kept : goal.returns-in-Some-clause-kept
returns-in-Some-clause-kept c = λ other.
    let z : ℤ = c.args.key.retention_id in
    let fits : SFits w32 z = search rules in
    let k : Kept = c.in-Some.kept.now in
    let m : Outcomes = c.args.outcomes.now in
    let n : Outcomes = c.get_mut.follows.lender k in
    let key : ℤ → RequestKey = λ r. record { client_id = c.args.key.client_id.items; retention_id = r } in
    let there = sym (ap is_some c.get_mut.ensures.value) ∙ ap (λ o. is_some (option_copied_mut o)) c.in-Some.is in
    let up = rw c.as_slice.ensures.value at ((c.get_mut.follows.holds k).3 there) in
    let found : under m (key (to_z w32 (of_z w32 z))) ≡ Some k = ap (λ (l : List ℕ). get_by (is_named l (Some (to_z w32 (of_z w32 z)))) m) (sym c.as_slice.ensures.value) ∙ sym c.get_mut.ensures.value ∙ ap (λ o. option_copied_mut o) c.in-Some.is in
    let P : ℤ → Type 0 = λ r. under n other ≡ cond (same_key other (key r)) (Some k) (under m other) in
    let Q : ℤ → Type 0 = λ r. under m (key r) ≡ Some k in
    let now = subst P (to_z-of_z w32 z fits) (under_key _ (λ x y. refl) m n (Some k) (key (to_z w32 (of_z w32 z))) up.1 up.3 other) in
    let was = subst Q (to_z-of_z w32 z fits) found in
    let is : is_parked c.args.number (holding_in k.outcome) ≡ false = grind (arith, common_steps) in
    under-filled c.args.number c.args.outcome (same_key other (key z)) (under m other) (under n other) k k (λ same. ap (λ (r : RequestKey). under m r) (same_is other (key z) same) ∙ was) now (put-no-is c.args.number c.args.outcome k is)

pub returns-then-eq-clause-is : goal.returns-then-eq-clause-is
returns-then-eq-clause-is c =
    let k : Kept = c.in-Some.kept.now in
    let w : Kept = record { slot = k.slot; until = k.until; outcome = c.args.outcome } in
    let found = sym c.get_mut.ensures.value ∙ ap (λ o. option_copied_mut o) c.in-Some.is in
    ap (λ es. map slot_of es) (c.get_mut.follows.holds w).0 ∙ refilled-set _ c.args.outcomes.now.entries k w found refl refl

pub returns-in-Some-clause-is : goal.returns-in-Some-clause-is
returns-in-Some-clause-is c =
    let k : Kept = c.in-Some.kept.now in
    let found = sym c.get_mut.ensures.value ∙ ap (λ o. option_copied_mut o) c.in-Some.is in
    ap (λ es. map slot_of es) (c.get_mut.follows.holds k).0 ∙ refilled-set _ c.args.outcomes.now.entries k k found refl refl
