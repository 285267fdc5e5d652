-- A call on a server, in the words of the slot that holds it.
use Rattle.std.proofs.Common.{◌≡◌, ℕ, ℤ, Some, Result, refl, subst, sym}
use Rattle.lemonrudder.specs.declared.object.Object.{Object}
use Rattle.lemonrudder.specs.declared.object.Object.TheVariants.{Server}
use Rattle.lemonrudder.specs.declared.refusal.Refusal.{Refusal}
use Rattle.lemonrudder.specs.declared.serving.Serving.{Serving}
use Rattle.lemonrudder.specs.Answers.{OnServer}
use Rattle.lemonrudder.specs.Refusals.{number_in}
use Rattle.lemonrudder.specs.Serves.{HasNoServer}

pub on_server : (P : Serving → Serving → Result ℕ Refusal → Type 0) (o : Object) (s t : Serving) (r : Result ℕ Refusal) (answer : ℤ) → o ≡ Server s → answer ≡ number_in r → P s t r
    → OnServer P (Some o) (Some (Server t)) answer
on_server P o s t r answer is said holds = subst (λ x. OnServer P (Some x) (Some (Server t)) answer) (sym is) (t, r, refl, said, holds)

-- the same of a call that leaves the server as it is
pub of_server : (P : Serving → Serving → Result ℕ Refusal → Type 0) (o : Object) (s : Serving) (r : Result ℕ Refusal) (answer : ℤ) → o ≡ Server s → answer ≡ number_in r → P s s r → OnServer P (Some o) (Some o) answer
of_server P o s r answer is said holds = subst (λ x. OnServer P (Some x) (Some x) answer) (sym is) (s, r, refl, said, holds)

pub has_server : (o : Object) (s : Serving) → o ≡ Server s → HasNoServer (Some o) → ⊥
has_server o s is none = subst (λ x. HasNoServer (Some x)) is none
