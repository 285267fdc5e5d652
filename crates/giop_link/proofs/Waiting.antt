-- The ids that wait, and those that are taken out.
use Rattle.std.proofs.Common.{◌≡◌, ℕ, suc, ◌+◌, ◌≤◌, Bool, true, false, ◌||◌, not, cond, List, [], ◌∷◌, ◌++◌, length, take, drop, nat_lt, Some, None, refl, sym, ap, subst, ◌∙◌, arith}
use Rattle.std.proofs.lemmas.Bool.Decides.{nat_tests}
use Rattle.std.specs.List.{list_any, position, position_or_len, remove}
use Rattle.giop_link.specs.declared.awaited.Outstanding.{Outstanding}
use Rattle.giop_link.specs.Ids.{without}

any-step : (b : Bool) (n len : ℕ) (rest : Bool) → rest ≡ nat_lt n len → (b || rest) ≡ nat_lt (cond (not b) (1 + n) 0) (suc len)
any-step true n len rest is = grind (arith, nat_tests)
any-step false n len rest is = grind (arith, nat_tests)

-- one is found where one passes
any-position : (test : Outstanding → Bool) (os : List Outstanding) → list_any test os ≡ nat_lt (position_or_len test os) (length os)
any-position test [] = refl
any-position test (o ∷ os) = any-step (test o) (position_or_len test os) (length os) (list_any test os) (any-position test os)

removed-step : (b : Bool) (o : Outstanding) (os rest : List Outstanding) (n : ℕ) → take n os ++ drop (suc n) os ≡ rest
    → take (cond (not b) (1 + n) 0) (o ∷ os) ++ drop (suc (cond (not b) (1 + n) 0)) (o ∷ os) ≡ cond b os (o ∷ rest)
removed-step true o os rest n is = refl
removed-step false o os rest n is =
    let more : 1 + n ≡ suc n = omega arith in
    subst (λ (k : ℕ). take k (o ∷ os) ++ drop (suc k) (o ∷ os) ≡ o ∷ rest) (sym more) (ap (λ (r : List Outstanding). o ∷ r) is)

-- and it is the one that is left out
removed : (test : Outstanding → Bool) (os : List Outstanding) → take (position_or_len test os) os ++ drop (suc (position_or_len test os)) os ≡ without test os
removed test [] = refl
removed test (o ∷ os) = removed-step (test o) o os (without test os) (position_or_len test os) (removed test os)

place-some : (b : Bool) (n i : ℕ) → cond b (Some n) None ≡ Some i → (b ≡ true) × (n ≡ i)
place-some true n i is = (refl, cc)
place-some false n i is = absurd (let k : None ≡ Some i = is in cc)

place-none : (b : Bool) (n : ℕ) → cond b (Some n) None ≡ None → b ≡ false
place-none true n is = absurd (let k : Some n ≡ None = is in cc)
place-none false n is = refl

pub found : (test : Outstanding → Bool) (os : List Outstanding) (i : ℕ) → position test os ≡ Some i → (list_any test os ≡ true) × (remove os i ≡ without test os)
found test os i is =
    let x = place-some (nat_lt (position_or_len test os) (length os)) (position_or_len test os) i is in
    (any-position test os ∙ x.0, ap (λ (n : ℕ). take n os ++ drop (suc n) os) (sym x.1) ∙ removed test os)

same-step : (b : Bool) (o : Outstanding) (os rest : List Outstanding) (any : Bool) → (any ≡ false → rest ≡ os) → (b || any) ≡ false → cond b os (o ∷ rest) ≡ o ∷ os
same-step true o os rest any next is = absurd (let k : true ≡ false = is in cc)
same-step false o os rest any next is = ap (λ (r : List Outstanding). o ∷ r) (next is)

without-none : (test : Outstanding → Bool) (os : List Outstanding) → list_any test os ≡ false → without test os ≡ os
without-none test [] is = refl
without-none test (o ∷ os) is = same-step (test o) o os (without test os) (list_any test os) (without-none test os) is

pub absent : (test : Outstanding → Bool) (os : List Outstanding) → position test os ≡ None → (list_any test os ≡ false) × (without test os ≡ os)
absent test os is =
    let none : list_any test os ≡ false = any-position test os ∙ place-none (nat_lt (position_or_len test os) (length os)) (position_or_len test os) is in
    (none, without-none test os none)

fewer-step : (b : Bool) (o : Outstanding) (os rest : List Outstanding) → length rest ≤ length os → length (cond b os (o ∷ rest)) ≤ suc (length os)
fewer-step true o os rest less = omega arith
fewer-step false o os rest less = omega arith

-- no more wait than before
pub fewer-wait : (test : Outstanding → Bool) (os : List Outstanding) → length (without test os) ≤ length os
fewer-wait test [] = omega arith
fewer-wait test (o ∷ os) = fewer-step (test o) o os (without test os) (fewer-wait test os)
