-- The first NUL of some octets, and what stands before it.
use Rattle.std.proofs.Common.{◌≡◌, ◌≢◌, ℕ, suc, ◌+◌, ◌≤◌, ◌<◌, Bool, true, false, cond, eqb, ltb, not, Some, None, position, List, [], ◌∷◌, ◌++◌, length, take, drop, refl, sym, ap, subst, ◌∙◌, arith}
use Rattle.std.proofs.lemmas.Bool.{eqb-true, eqb-false, ltb-false}
use Rattle.std.proofs.lemmas.List.{drop_all}
use Rattle.std.proofs.lemmas.List.Sums.{prefix_len-le-length}
use Rattle.cdr_core.specs.Reading.{is_nul, to_nul}
use Rattle.cdr_core.specs.Spelling.{IsClean}

pub within : (xs : List ℕ) → to_nul xs ≤ length xs
within xs = prefix_len-le-length (λ x. not (is_nul x)) xs

one_more : (n : ℕ) → suc n ≡ 1 + n
one_more n = omega arith

clean_by : (b : Bool) (x : ℕ) (xs : List ℕ) → eqb x 0 ≡ b → IsClean (take (to_nul xs) xs) → IsClean (take (cond (not b) (1 + to_nul xs) 0) (x ∷ xs))
clean_by true x xs e h = tt
clean_by false x xs e h = subst (λ n. IsClean (take n (x ∷ xs))) (one_more (to_nul xs)) (eqb-false _ _ e, h)

pub clean_front : (xs : List ℕ) → IsClean (take (to_nul xs) xs)
clean_front [] = tt
clean_front (x ∷ xs) = clean_by (eqb x 0) x xs refl (clean_front xs)

abbrev SplitsAt : ℕ → List ℕ → Type 0
SplitsAt n xs = xs ≡ take n xs ++ 0 ∷ drop (suc n) xs

splits_by : (b : Bool) (x : ℕ) (xs : List ℕ) → eqb x 0 ≡ b → (to_nul xs < length xs → SplitsAt (to_nul xs) xs) → cond (not b) (1 + to_nul xs) 0 < length (x ∷ xs) → SplitsAt (cond (not b) (1 + to_nul xs) 0) (x ∷ xs)
splits_by true x xs e h lt = ap (λ y. y ∷ xs) (eqb-true _ _ e)
splits_by false x xs e h lt = subst (λ n. SplitsAt n (x ∷ xs)) (one_more (to_nul xs)) (ap (λ ys. x ∷ ys) (h (omega arith)))

pub splits : (xs : List ℕ) → to_nul xs < length xs → SplitsAt (to_nul xs) xs
splits [] lt = absurd (omega arith)
splits (x ∷ xs) lt = splits_by (eqb x 0) x xs refl (splits xs) lt

to_by : (b : Bool) (x n : ℕ) → eqb x 0 ≡ b → x ≢ 0 → cond (not b) (1 + n) 0 ≡ suc n
to_by true x n e h = absurd (h (eqb-true _ _ e))
to_by false x n e h = sym (one_more n)

-- the first NUL after a clean text, and in a clean text alone
pub to_nul-append : (text rest : List ℕ) → IsClean text → to_nul (text ++ 0 ∷ rest) ≡ length text
to_nul-append [] rest h = refl
to_nul-append (x ∷ text) rest h = to_by (eqb x 0) x (to_nul (text ++ 0 ∷ rest)) refl h.0 ∙ ap suc (to_nul-append text rest h.1)

pub to_nul-clean : (text : List ℕ) → IsClean text → to_nul text ≡ length text
to_nul-clean [] h = refl
to_nul-clean (x ∷ text) h = to_by (eqb x 0) x (to_nul text) refl h.0 ∙ ap suc (to_nul-clean text h.1)

-- octets of which the last alone is a NUL
pub ends : (xs : List ℕ) (m : ℕ) → length xs ≡ suc m → to_nul xs ≡ m → (xs ≡ take m xs ++ 0 ∷ []) × IsClean (take m xs)
ends xs m long at =
    let h : SplitsAt (to_nul xs) xs = splits xs (omega arith) in
    let c = clean_front xs in
    let nothing : drop (suc m) xs ≡ [] = drop_all (suc m) xs (omega arith) in
    (subst (λ n. SplitsAt n xs) at h ∙ ap (λ ys. take m xs ++ 0 ∷ ys) nothing, subst (λ n. IsClean (take n xs)) at c)

-- no NUL was found
pub none_found : (xs : List ℕ) → position is_nul xs ≡ None → length xs ≡ to_nul xs
none_found xs h = by (ltb (to_nul xs) (length xs)) refl h
  where
    by : (b : Bool) → ltb (to_nul xs) (length xs) ≡ b → cond b (Some (to_nul xs)) None ≡ None → length xs ≡ to_nul xs
    by true e h = absurd cc
    by false e h = let past : length xs ≤ to_nul xs = ltb-false _ _ e in let in_all : to_nul xs ≤ length xs = within xs in omega arith
