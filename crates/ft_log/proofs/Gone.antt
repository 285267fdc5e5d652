-- How many entries expired before a moment.
use Rattle.std.proofs.Common.{◌≡◌, ℕ, suc, ◌+◌, ◌-◌, ◌<◌, ◌≤◌, Bool, true, false, nat_le, nat_lt, cond, min, List, [], ◌∷◌, ◌++◌, length, filter, Option, Some, None, refl, sym, ap, ◌∙◌, arith, length-append}
use Rattle.std.specs.List.{count_by}
use Rattle.std.specs.Option.{option_map_or}
use Rattle.std.proofs.lemmas.Bool.{leb-true}
use Rattle.std.proofs.lemmas.List.{length-map}
use Rattle.std.proofs.lemmas.Option.{none-some, same_Some}
use Rattle.ft_log.specs.Holding.{Holding}
use Rattle.ft_log.specs.Keys.{RequestKey, are_distinct}
use Rattle.ft_log.specs.Kept.{KeptOutcome, least_expiration, unexpired, withdrawn}
use Rattle.ft_log.specs.Tied.{outcome_for}
use Rattle.ft_log.specs.View.{entries_at, entry_in}
use Rattle.ft_log.specs.Without.{without}
use Rattle.ft_log.specs.declared.story.Entry.{Entry}
use Rattle.ft_log.proofs.Entries.{keys_at, without_few}
use Rattle.ft_log.proofs.Live.{length-unexpired, unexpired-zero}
use Rattle.ft_log.proofs.Seen.{live_or_stale}
use Rattle.ft_log.proofs.Withdrawn.{entries-withdrawn, is_parked_in}

abbrev Kept : Type 0
Kept = KeptOutcome Holding

abbrev pub gone : ℕ → List Entry → ℕ
gone now es = count_by (λ e. nat_lt e.expiration now) es

pub gone_is : (now : ℕ) (es : List Entry) → gone now es ≡ length (entries_at es) - length (unexpired now (entries_at es))
gone_is now es = omega (arith, live_or_stale now es, length-map es entry_in)

-- as many, where all is the same
pub gone-like : (m n : ℕ) (xs ys : List Entry) → m ≡ n → entries_at xs ≡ entries_at ys → gone m xs ≡ gone n ys
gone-like m n xs ys p q = gone_is m xs ∙ (λ i. length (q i) - length (unexpired (p i) (q i))) ∙ sym (gone_is n ys)

-- none before the first moment
pub gone-zero : (n : ℕ) (es : List Entry) → n ≡ 0 → gone n es ≡ 0
gone-zero n es is = ap (λ m. gone m es) is ∙ gone_is 0 es ∙ (let all = ap length (unexpired-zero (entries_at es)) in omega (arith, all))

-- one more that is live is not among them
pub gone-push : (now : ℕ) (es new : List Entry) (e : Kept) → entries_at new ≡ entries_at es ++ e ∷ [] → unexpired now (entries_at new) ≡ unexpired now (entries_at es) ++ e ∷ [] → gone now new ≡ gone now es
gone-push now es new e all live =
    omega (
      arith,
      gone_is now es,
      gone_is now new,
      ap length all,
      ap length live,
      length-append (entries_at es) (e ∷ []),
      length-append (unexpired now (entries_at es)) (e ∷ []),
    )

-- where some go, no more of them are left
fewer : (now : ℕ) (p : Kept → Bool) (l : List Kept) → length (filter p l) + length (unexpired now l) ≤ length l + length (unexpired now (filter p l))
fewer now p [] = omega arith
fewer now p (e ∷ l) = by (p e) (nat_le now e.expiration) refl (fewer now p l)
  where
    by : (a b : Bool) → nat_le now e.expiration ≡ b → length (filter p l) + length (unexpired now l) ≤ length l + length (unexpired now (filter p l))
        → length (cond a (e ∷ filter p l) (filter p l)) + length (cond b (e ∷ unexpired now l) (unexpired now l)) ≤ length (e ∷ l) + length (unexpired now (cond a (e ∷ filter p l) (filter p l)))
    by true true t more =
        let here : length (unexpired now (e ∷ filter p l)) ≡ suc (length (unexpired now (filter p l))) = λ i. length (cond (t i) (e ∷ unexpired now (filter p l)) (unexpired now (filter p l))) in
        omega (arith, more, here)
    by true false t more =
        let here : length (unexpired now (e ∷ filter p l)) ≡ length (unexpired now (filter p l)) = λ i. length (cond (t i) (e ∷ unexpired now (filter p l)) (unexpired now (filter p l))) in
        omega (arith, more, here)
    by false true t more = omega (arith, more)
    by false false t more = omega (arith, more)

pub withdrawn_fewer : (now : ℕ) (key : RequestKey) (number : ℕ) (l : List Kept) → length (withdrawn key number l) + length (unexpired now l) ≤ length l + length (unexpired now (withdrawn key number l))
withdrawn_fewer now key number l = fewer now _ l

-- one goes at most
pub withdrawn_few : (key : RequestKey) (number : ℕ) (es : List Entry) → are_distinct (keys_at es) ≡ true → length (entries_at es) ≤ length (withdrawn key number (entries_at es)) + 1
withdrawn_few key number es distinct =
    let is = ap (λ (l : List Kept). length l) (entries-withdrawn key number es distinct) in
    let few = by (is_parked_in number (outcome_for key es)) in
    omega (arith, is, few)
  where
    by : (b : Bool) → length (entries_at es) ≤ length (entries_at (cond b (without key es) es)) + 1
    by true = omega (arith, without_few key es distinct, length-map es entry_in, length-map (without key es) entry_in)
    by false = omega arith

-- where the least expiration lies before a moment, not all is live
pub some_gone : (now t : ℕ) (l : List Kept) → Some t ≡ least_expiration l → t < now → length (unexpired now l) < length l
some_gone now t [] is lt = absurd (none-some t (sym is))
some_gone now t (e ∷ l) is lt = by (nat_le now e.expiration) refl (least_expiration l) refl (same_Some _ _ is) (λ u. some_gone now u l)
  where
    by : (b : Bool) → nat_le now e.expiration ≡ b → (o : Option ℕ) → least_expiration l ≡ o → t ≡ option_map_or (min e.expiration) o e.expiration
        → ((u : ℕ) → Some u ≡ least_expiration l → u < now → length (unexpired now l) < length l) → length (cond b (e ∷ unexpired now l) (unexpired now l)) < length (e ∷ l)
    by false f o h least more = omega (arith, length-unexpired now l)
    by true f None h least more = absurd (omega (arith, leb-true _ _ f, least, lt))
    by true f (Some u) h least more = let later = more u (sym h) (omega (arith, leb-true _ _ f, least, lt)) in omega (arith, later)
