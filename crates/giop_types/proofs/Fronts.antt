-- What holds of the front of a list, a place at a time; and what is left behind a front that may be longer than the list.
use Rattle.std.proofs.Common.{◌≡◌, refl, ℕ, zero, suc, ◌+◌, List, [], ◌∷◌, drop, length, map, min, take, get_or, subst, arith}
use native.Mathlib.Numerals.{unary_clauses}
use Rattle.std.specs.List.{AllByRecursion}

module _ {X Y : Type 0} (f : X → Y) (P : Y → Type 0) where
  front_next : (xs : List X) (i : ℕ) (x : X) → x ≡ get_or xs i x → AllByRecursion P (take i (map f xs)) → P (f x) → AllByRecursion P (take (suc i) (map f xs))
  front_next [] i x is front here = tt
  front_next (y ∷ xs) zero x is front here = (subst (λ z. P (f z)) is here, tt)
  front_next (y ∷ xs) (suc i) x is front here = (front.0, front_next xs i x is front.1 here)

  -- it holds of one more
  pub front_more : (xs : List X) (i : ℕ) (x : X) → x ≡ get_or xs i x → AllByRecursion P (take i (map f xs)) → P (f x) → AllByRecursion P (take (i + 1) (map f xs))
  front_more xs i x is front here = let on : suc i ≡ i + 1 = omega arith in subst (λ n. AllByRecursion P (take n (map f xs))) on (front_next xs i x is front here)

-- what is left is the same, where the list is shorter
pub drop_least : {X : Type 0} (n : ℕ) (xs : List X) → drop (min n (length xs)) xs ≡ drop n xs
drop_least zero xs = simp unary_clauses refl
drop_least (suc n) [] = simp unary_clauses refl
drop_least (suc n) (x ∷ xs) = simp unary_clauses (drop_least n xs)
