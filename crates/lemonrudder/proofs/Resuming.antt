-- Numbers of calls of before.
use Rattle.std.proofs.Common.{◌≡◌, ◌∙◌, ℕ, ℤ, Some, Result, Ok, ap, sym}
use Rattle.lemonrudder.specs.declared.refusal.Refusal.{Refusal}
use Rattle.lemonrudder.specs.Naming.{call_numbered, or_range}
use Rattle.lemonrudder.proofs.Clients.{named_ok}

-- the number of a call, which the code passes on
pub numbered_as : (call passed : ℤ) (n : ℕ) → passed ≡ call → ◌≡◌ {A = Result ℕ Refusal} (Ok n) (or_range (call_numbered passed)) → call_numbered call ≡ Some n
numbered_as call passed n same is = ap call_numbered (sym same) ∙ named_ok (call_numbered passed) n is
