-- A count is not below 0, where a refusal is.
use Rattle.std.proofs.Common.{◌≡◌, ◌∙◌, ℕ, ℤ, pos, ◌<ℤ◌, ◌≤ℤ◌, List, length, Option, Some, None, Result, ap, subst, arith}
use Rattle.std.proofs.lemmas.Int.{ints}
use Rattle.lemonrudder.specs.declared.refusal.Refusal.{Refusal}
use Rattle.lemonrudder.specs.Copies.{Copies}
use Rattle.lemonrudder.specs.Refusals.{number_in, signed_of}

pub no_count : (n : ℕ) (answer : ℤ) → answer ≡ signed_of n → answer <ℤ pos 0 → ⊥
no_count n answer is below = let h : signed_of n <ℤ pos 0 = subst (λ z. z <ℤ pos 0) is below in omega (arith, ints)

pub count_none : (n : ℕ) (answer : ℤ) → answer ≡ signed_of n → answer ≤ℤ pos 0 → n ≡ 0
count_none n answer is below = let h : signed_of n ≤ℤ pos 0 = subst (λ z. z ≤ℤ pos 0) is below in omega (arith, ints)

pub copies_refused : (o : Option (List ℕ)) (room new : List ℕ) (r : Result ℕ Refusal) (answer : ℤ) → Copies o room new r → answer ≡ number_in r → answer <ℤ pos 0 → new ≡ room
copies_refused None room new r answer copies is below = copies.1
copies_refused (Some octets) room new r answer copies is below = absurd (no_count (length octets) answer (is ∙ ap number_in copies.0) below)
