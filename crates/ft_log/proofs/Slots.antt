-- How many slots a map has, once one was put there or taken away.
use Rattle.std.proofs.Common.{◌≡◌, ℕ, ◌+◌, ◌≤◌, ◌==◌, ◌&&◌, Bool, true, false, true≢false, refl, cond, Option, Some, None, is_some, unwrap_or, sym, ap, ◌∙◌, arith}
use Rattle.std.proofs.lemmas.Bool.Decides.{nat_tests}

-- one more at most
pub put_one : (old : Option ℕ) (m n : ℕ) → n ≡ m + cond (is_some old) 0 1 → n ≤ m + 1
put_one None m n is = omega (arith, is)
put_one (Some s) m n is = omega (arith, is)

-- one fewer where a count of 1 was
pub take_count : (old is : Option ℕ) (m n : ℕ) → old ≡ is → n + cond (is_some old) 1 0 ≡ m → n + cond (unwrap_or is 0 == 1) 1 0 ≤ m
take_count old is m n same len = by is (ap (λ o. n + cond (is_some o) 1 0) (sym same) ∙ len)
  where
    by : (o : Option ℕ) → n + cond (is_some o) 1 0 ≡ m → n + cond (unwrap_or o 0 == 1) 1 0 ≤ m
    by None h = omega (arith, h)
    by (Some k) h = grind (arith, nat_tests)

-- how many slots are clients', where clients are counted
pub counted_few : (b : Bool) (n : ℕ) → cond b n 0 ≤ n
counted_few true n = omega arith
counted_few false n = omega arith

-- with one more of the entries: the slot of its client comes, where clients are counted and it had no other
pub slim-with : (b counts : Bool) (h held was raised clients clients' : ℕ) → counts ≡ b → (b ≡ true → h ≡ held) → was ≤ cond b clients 0
    → raised ≤ was + cond (counts && h == 0) 1 0 → clients' ≡ clients + cond (held == 0) 1 0 → raised ≤ cond b clients' 0
slim-with true true h held was raised clients clients' is same slim one c = let e = same refl in grind (arith, nat_tests)
slim-with true false h held was raised clients clients' is same slim one c = absurd (true≢false (sym is))
slim-with false true h held was raised clients clients' is same slim one c = absurd (true≢false is)
slim-with false false h held was raised clients clients' is same slim one c = omega (arith, slim, one)

-- without one of the entries: the slot of its client goes, where clients are counted and it has no other
pub slim-without : (b counts : Bool) (h held held' was left clients clients' : ℕ) → counts ≡ b → (b ≡ true → h ≡ held) → was ≤ cond b clients 0
    → left + cond (counts && h == 1) 1 0 ≤ was → held' + 1 ≡ held → clients ≡ clients' + cond (held' == 0) 1 0 → left ≤ cond b clients' 0
slim-without true true h held held' was left clients clients' is same slim one d c = let e = same refl in grind (arith, nat_tests)
slim-without true false h held held' was left clients clients' is same slim one d c = absurd (true≢false (sym is))
slim-without false true h held held' was left clients clients' is same slim one d c = absurd (true≢false is)
slim-without false false h held held' was left clients clients' is same slim one d c = omega (arith, slim, one)
