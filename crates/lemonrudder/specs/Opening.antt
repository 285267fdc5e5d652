-- What was made is put into a slot.
use Rattle.std.specs.Prelude.{◌≡◌, ℤ, Option, Some, None, Result, Ok, Err}
use Rattle.lemonrudder.specs.declared.object.Object.{Object}
use Rattle.lemonrudder.specs.declared.refusal.Refusal.{Refusal}
use Rattle.lemonrudder.specs.declared.refusal.Refusal.TheVariants as refusal
use Rattle.lemonrudder.specs.Answers.{Opens}
use Rattle.lemonrudder.specs.Refusals.{error_number}

-- as an object of a kind; or why nothing was made
abbrev pub OpensWith : {A : Type 0} → (A → Object) → Result A Refusal → Option Object → Option Object → ℤ → Type 0
OpensWith kind (Ok x) before after answer = Opens (kind x) before after answer
OpensWith kind (Err e) before after answer = (answer ≡ error_number e) × (after ≡ before)

-- something is made as `Made` says; where the slot is in use nothing is made, and nothing else counts
abbrev pub OpensMade : {A : Type 0} → (A → Object) → (Result A Refusal → Type 0) → Option Object → Option Object → ℤ → Type 0
OpensMade kind Made (Some x) after answer = (answer ≡ error_number refusal.Open) × (after ≡ Some x)
OpensMade kind Made None after answer = (r : Result _ Refusal) × Made r × OpensWith kind r None after answer
