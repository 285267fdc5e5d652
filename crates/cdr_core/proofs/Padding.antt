-- Padding leads to the next place that the alignment divides.
use Rattle.std.proofs.Common.{◌≡◌, ℕ, zero, suc, ◌+◌, ◌-◌, ◌*◌, ◌/◌, ◌%◌, ◌<◌, ◌≤◌, refl, sym, ap, ◌∙◌, arith, inl, inr}
use Rattle.std.proofs.Math.Nat.{div-add-mod, mod-eq_of_lt, mod_self, mul-add-mod_self_left}
use Rattle.std.proofs.lemmas.Bool.{cases_lt}
use Rattle.std.proofs.lemmas.Nat.{mod_below}
use Rattle.cdr_core.specs.Laws.{PaddingIsLeast}

-- the place o is r past one that n divides
least_from : (o n r : ℕ) → o % n ≡ r → r < n → ((n - r) % n < n) × ((o + (n - r) % n) % n ≡ 0) × ((k : ℕ) → (o + k) % n ≡ 0 → (n - r) % n ≤ k)
least_from o n zero is lt =
    let whole : n - 0 ≡ n = omega arith in
    let none : (n - 0) % n ≡ 0 = ap (λ m. m % n) whole ∙ mod_self n in
    let here : o + (n - 0) % n ≡ o = omega (arith, none) in
    (omega (arith, none), ap (λ m. m % n) here ∙ is, λ k h. omega (arith, none))
least_from o n (suc r) is lt =
    let q = n * (o / n) in
    let some : (n - suc r) % n ≡ n - suc r = mod-eq_of_lt (omega arith) in
    let parts : q + suc r ≡ o = ap (λ m. q + m) (sym is) ∙ div-add-mod o n in
    let next : o + (n - suc r) % n ≡ q + n = omega (arith, some, parts, lt) in (
      omega (arith, some),
      ap (λ m. m % n) next ∙ mul-add-mod_self_left n (o / n) n ∙ mod_self n,
      λ k h.
          let far : o + k ≡ q + (suc r + k) = omega (arith, parts) in
          let same : (o + k) % n ≡ (suc r + k) % n = ap (λ m. m % n) far ∙ mul-add-mod_self_left n (o / n) (suc r + k) in
          elim (cases_lt (suc r + k) n) [
            | inl less ↦ (let near : (suc r + k) % n ≡ suc r + k = mod-eq_of_lt less in absurd (omega (arith, near, same, h)))
            | inr more ↦ omega (arith, some, more)
          ],
    )

pub least : PaddingIsLeast
least o n some = least_from o n (o % n) refl (mod_below o n some)
