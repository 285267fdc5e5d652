-- Something waits, or nothing.
use Rattle.std.proofs.Common.{◌≡◌, ◌<◌, ◌≤◌, ◌⊎◌, inl, inr, arith, ℕ, Bool, true, false, Option, Some, None, sym, ◌∙◌}
use Rattle.std.proofs.lemmas.Bool.{cases_lt, false≢true}
use Rattle.std.proofs.lemmas.Option.{none-some}
use Rattle.std.specs.Option.{IsSome}

pub not_both : {A : Type 0} (o : Option A) → IsSome o → o ≡ None → ⊥
not_both None some none = false≢true some
not_both (Some x) some none = none-some x (sym none)

pub not_so : {b : Bool} → b ≡ false → b ≡ true → ⊥
not_so one other = false≢true (sym one ∙ other)

-- fewer than so many, or as many
pub few : (n most : ℕ) → n < most → most ≤ n → ⊥
few n most less full = omega (arith, less, full)

pub many : (n most : ℕ) → ¬ (most ≤ n) → n < most
many n most room = elim (cases_lt n most) [
  | inl less ↦ less
  | inr full ↦ absurd (room full)
]
