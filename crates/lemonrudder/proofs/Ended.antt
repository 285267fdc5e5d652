-- What a call answers by how it ended.
use Rattle.std.proofs.Common.{◌≡◌, ℕ, Result, Ok, Err, ap, sym, ◌∙◌}
use Rattle.std.proofs.lemmas.Result.{err_from_is_err_and}
use Rattle.std.specs.Result.{IsErrAnd}
use Rattle.lemonrudder.specs.declared.refusal.Refusal.{Refusal}
use Rattle.lemonrudder.specs.Serves.{done_of}

pub ok-done : {A E : Type 0} (n : ℕ) (why : E → Refusal) (o : Result A E) (x : A) → o ≡ Ok x → Ok n ≡ done_of n why o
ok-done n why o x is = sym (ap (done_of n why) is)

pub err-done : {A E : Type 0} (n : ℕ) (why : E → Refusal) (o : Result A E) (e : E) (r : Result ℕ Refusal) → o ≡ Err e → IsErrAnd r (λ y. y ≡ why e) → r ≡ done_of n why o
err-done n why o e r is h = let p = err_from_is_err_and r h in p.1 ∙ (ap Err p.2 ∙ sym (ap (done_of n why) is))
