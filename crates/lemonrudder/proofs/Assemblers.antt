-- A call on an assembler, in the words of the slot that holds it.
use Rattle.std.proofs.Common.{◌≡◌, ℕ, ℤ, Some, Result, refl, subst, sym}
use Rattle.lemonrudder.specs.Assembled.{Assembled}
use Rattle.lemonrudder.specs.declared.object.Object.{Object}
use Rattle.lemonrudder.specs.declared.object.Object.TheVariants.{Assembler}
use Rattle.lemonrudder.specs.declared.refusal.Refusal.{Refusal}
use Rattle.lemonrudder.specs.Answers.{OnAssembler}
use Rattle.lemonrudder.specs.Refusals.{number_in}

pub on_assembler : (P : Assembled → Assembled → Result ℕ Refusal → Type 0) (o : Object) (s t : Assembled) (r : Result ℕ Refusal) (answer : ℤ) → o ≡ Assembler s → answer ≡ number_in r → P s t r
    → OnAssembler P (Some o) (Some (Assembler t)) answer
on_assembler P o s t r answer is said holds = subst (λ x. OnAssembler P (Some x) (Some (Assembler t)) answer) (sym is) (t, r, refl, said, holds)

-- of one that is read
pub on_same_assembler : (P : Assembled → Assembled → Result ℕ Refusal → Type 0) (o : Object) (s : Assembled) (r : Result ℕ Refusal) (answer : ℤ) → o ≡ Assembler s → answer ≡ number_in r → P s s r
    → OnAssembler P (Some o) (Some o) answer
on_same_assembler P o s r answer is said holds = subst (λ x. OnAssembler P (Some x) (Some x) answer) (sym is) (s, r, refl, said, holds)
