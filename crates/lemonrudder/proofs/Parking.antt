-- Why a request is not parked.
use Rattle.std.proofs.Common.{◌≡◌, ◌⊎◌, ℕ, ◌<◌, ◌≤◌, Bool, true, false, nat_lt, Option, Some, IfSome, Result, Ok, Err, ◌∙◌, inl, inr, refl, subst, sym, arith}
use Rattle.std.proofs.lemmas.Grind.{common_steps}
use Rattle.ft_orb.specs.declared.error.ParkError.{ParkError}
use Rattle.ft_orb.specs.declared.error.ParkError.TheVariants.{Full, Share}
use Rattle.ft_orb.specs.Engines.{Awaited}

-- where no more may be parked, in all or of one connection, that is why
pub no_place : (places count : ℕ) (of_one : Awaited → Type 0) (o : Option Awaited) (w : Awaited) (x : Result (Unit {0}) ParkError) → o ≡ Some w → (places ≤ count → x ≡ Err Full) → ((count < places) × IfSome o of_one → x ≡ Err Share)
    → (places ≤ count) ⊎ of_one w → (x ≡ Err Full) ⊎ (x ≡ Err Share)
no_place places count of_one o w x is full share (inl many) = inl (full many)
no_place places count of_one o w x is full share (inr own) = by (nat_lt count places) refl
  where
    by : (b : Bool) → nat_lt count places ≡ b → (x ≡ Err Full) ⊎ (x ≡ Err Share)
    by true lt = let fewer : count < places = grind (arith, common_steps) in inr (share (fewer, subst (λ y. IfSome y of_one) (sym is) own))
    by false lt = let many : places ≤ count = grind (arith, common_steps) in inl (full many)

pub not_memory : (x : Result (Unit {0}) ParkError) (e : ParkError) → x ≡ Err e → (e ≡ Full → ⊥) → (e ≡ Share → ⊥) → (x ≡ Err Full) ⊎ (x ≡ Err Share) → ⊥
not_memory x e is full share (inl y) = let z : Err e ≡ Err Full = sym is ∙ y in full cc
not_memory x e is full share (inr y) = let z : Err e ≡ Err Share = sym is ∙ y in share cc

pub done_not : (x : Result (Unit {0}) ParkError) → x ≡ Ok tt → (x ≡ Err Full) ⊎ (x ≡ Err Share) → ⊥
done_not x is (inl y) = let z : Ok tt ≡ Err Full = sym is ∙ y in absurd cc
done_not x is (inr y) = let z : Ok tt ≡ Err Share = sym is ∙ y in absurd cc
