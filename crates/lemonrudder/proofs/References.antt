-- A call on a reference, in the words of the slot that holds it.
use Rattle.std.proofs.Common.{◌≡◌, ℕ, ℤ, Some, Result, refl, subst, sym}
use Rattle.lemonrudder.specs.declared.referring.Referring.{Referring}
use Rattle.lemonrudder.specs.declared.object.Object.{Object}
use Rattle.lemonrudder.specs.declared.object.Object.TheVariants.{Reference}
use Rattle.lemonrudder.specs.declared.refusal.Refusal.{Refusal}
use Rattle.lemonrudder.specs.Answers.{OnReference}
use Rattle.lemonrudder.specs.Refusals.{number_in}

pub on_same_reference : (P : Referring → Referring → Result ℕ Refusal → Type 0) (o : Object) (s : Referring) (r : Result ℕ Refusal) (answer : ℤ) → o ≡ Reference s → answer ≡ number_in r → P s s r
    → OnReference P (Some o) (Some o) answer
on_same_reference P o s r answer is said holds = subst (λ x. OnReference P (Some x) (Some x) answer) (sym is) (s, r, refl, said, holds)
