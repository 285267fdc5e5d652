-- What is made for a slot, which is in use or not.
use Rattle.std.proofs.Common.{◌≡◌, ◌∙◌, ℤ, Bool, true, false, not, Option, Some, None, Result, refl, subst, sym}
use Rattle.lemonrudder.specs.declared.object.Object.{Object}
use Rattle.lemonrudder.specs.declared.refusal.Refusal.{Refusal}
use Rattle.lemonrudder.specs.declared.refusal.Refusal.TheVariants as refusal
use Rattle.lemonrudder.specs.Opening.{OpensMade, OpensWith}
use Rattle.lemonrudder.specs.Ownership.{is_held}
use Rattle.lemonrudder.specs.Refusals.{error_number}
use Rattle.lemonrudder.proofs.Hosting.{not_held}

-- it is refused where the slot is in use
pub in_use : {A : Type 0} (kind : A → Object) (Made : Result A Refusal → Type 0) (before : Option Object) (empty : Bool) (answer given : ℤ) → answer ≡ given → empty ≡ not (is_held before) → empty ≡ false → given ≡ error_number refusal.Open
    → OpensMade kind Made before before answer
in_use kind Made None empty answer given same is used said = absurd cc
in_use kind Made (Some x) empty answer given same is used said = (same ∙ said, refl)

-- .. and else put there, or why it is not made
pub opens_made : {A : Type 0} (kind : A → Object) (Made : Result A Refusal → Type 0) (before after : Option Object) (empty : Bool) (answer given : ℤ) (r : Result A Refusal) → answer ≡ given → empty ≡ not (is_held before) → empty ≡ true
    → Made r → OpensWith kind r before after given → OpensMade kind Made before after answer
opens_made kind Made before after empty answer given r same is free made opens =
    let none = not_held before empty is free in
    subst (λ o. OpensMade kind Made o after answer) (sym none) (r, made, subst (λ o. OpensWith kind r o after answer) none (subst (λ a. OpensWith kind r before after a) (sym same) opens))
