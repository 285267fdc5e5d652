-- A proof that a field of `FtClient` cites.
use Rattle.std.specs.Prelude.{ℕ, ◌≢◌, List}
use Rattle.std.specs.List.{AllByRecursion-prop}
use Rattle.cdr_core.specs.Spelling.{IsClean}

-- there is one proof at most that a text is clean
pub clean_prop : (text : List ℕ) → IsProp (IsClean text)
clean_prop text = AllByRecursion-prop (λ x. x ≢ 0) (λ x. hlevel) text
