-- How the count of a client moves.
use Rattle.std.proofs.Common.{◌≡◌, ◌+◌, Bool, true, false, cond, List, ℕ, refl, ap, ◌∙◌, bytes_eq, arith}
use Rattle.std.proofs.lemmas.Slice.Eq.{bytes_eq-Decides}
use Rattle.ft_log.specs.Maps.{Counts, held_at}

pub one_more : (m : Counts) (client other : List ℕ) (n : ℕ) → n ≡ held_at m client → cond (bytes_eq client other) (n + 1) (held_at m other) ≡ held_at m other + cond (bytes_eq client other) 1 0
one_more m client other n is = by (bytes_eq client other) refl
  where
    by : (b : Bool) → bytes_eq client other ≡ b → cond b (n + 1) (held_at m other) ≡ held_at m other + cond b 1 0
    by true e = let same = ap (held_at m) ((bytes_eq-Decides client other).0 e) in omega (arith, is, same)
    by false e = omega arith

pub as_before : (m : Counts) (client other : List ℕ) (n : ℕ) → n ≡ held_at m client → cond (bytes_eq client other) n (held_at m other) ≡ held_at m other
as_before m client other n is = by (bytes_eq client other) refl
  where
    by : (b : Bool) → bytes_eq client other ≡ b → cond b n (held_at m other) ≡ held_at m other
    by true e = is ∙ ap (held_at m) ((bytes_eq-Decides client other).0 e)
    by false e = refl

pub one_less : (m n : Counts) (client other : List ℕ) (k : ℕ) → k + 1 ≡ held_at m client → held_at n other ≡ cond (bytes_eq client other) k (held_at m other) → held_at n other + cond (bytes_eq client other) 1 0 ≡ held_at m other
one_less m n client other k is now = by (bytes_eq client other) refl now
  where
    by : (b : Bool) → bytes_eq client other ≡ b → held_at n other ≡ cond b k (held_at m other) → held_at n other + cond b 1 0 ≡ held_at m other
    by true e h = let same = ap (held_at m) ((bytes_eq-Decides client other).0 e) in omega (arith, is, same, h)
    by false e h = omega (arith, h)
