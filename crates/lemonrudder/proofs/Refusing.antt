-- What holds where a call is refused, by the number that is answered.
use Rattle.std.proofs.Common.{◌≡◌, ℕ, ℤ, pos, ◌<ℤ◌, Result, Ok, Err}
use Rattle.std.specs.Result.{OnErr}
use Rattle.lemonrudder.specs.declared.refusal.Refusal.{Refusal}
use Rattle.lemonrudder.specs.Refusals.{number_in}
use Rattle.lemonrudder.proofs.Counts.{no_count}

pub on_refusal : (P : Type 0) (r : Result ℕ Refusal) (answer : ℤ) → OnErr r P → answer ≡ number_in r → answer <ℤ pos 0 → P
on_refusal P (Ok n) answer holds is below = absurd (no_count n answer is below)
on_refusal P (Err e) answer holds is below = holds
