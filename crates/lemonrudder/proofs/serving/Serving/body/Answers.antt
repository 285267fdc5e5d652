use Rattle.std.proofs.Common.{◌≡◌, ℕ, List, Option, Some, None, Result, Bor, option_map, refl, subst}
use Rattle.cdr_core.specs.Value.{Values}
use Rattle.lemonrudder.specs.declared.refusal.Refusal.{Refusal}
use Rattle.lemonrudder.specs.Questions.{TellsCame, TellsValues}
use Rattle.lemonrudder.proofs.serving.Serving.body.Goals as goal

-- no octets came
told_values : (came : Option (Bor (List ℕ))) (found : Option (List ℕ)) (vs : Values) (room new : List ℕ) (r : Result ℕ Refusal) → option_map (λ all. all.now) came ≡ found → ((x : Bor (List ℕ)) → came ≡ Some x → ⊥)
    → TellsValues vs room new r → TellsCame found vs room new r
told_values None found vs room new r is never told = subst (λ o. TellsCame o vs room new r) is told
told_values (Some x) found vs room new r is never told = absurd (never x refl)

pub returns : goal.returns
returns c = told_values c.octets_at.result _ _ _ _ _ c.octets_at.ensures c.in_default.not-Some c.values_of_call.ensures
