-- What stands for a log at its clock.
use Rattle.std.proofs.Common.{◌≡◌, ◌+◌, ℕ, Bool, true, false, not, nat_le, nat_lt, max, cond, List, [], ◌∷◌, length, Result, Ok, Err, OnOk, OnErr, option_map, refl, sym, ap, ◌∙◌, arith}
use Rattle.std.specs.List.{count_by, list_any}
use Rattle.std.proofs.lemmas.Bool.{and_parts, and_from, or_parts, or_from, not_from_false, leb-true, leb-false, ltb-true, ltb-false}
use Rattle.std.proofs.lemmas.List.{length-map}
use Rattle.std.proofs.lemmas.List.Filters.{length-filter_both}
use Rattle.std.proofs.lemmas.List.Sums.{length-filter}
use Rattle.ft_log.specs.Holding.{Holding}
use Rattle.ft_log.specs.Keys.{RequestKey, are_distinct, same_key}
use Rattle.ft_log.specs.Kept.{KeptOutcome, keys_of, unexpired}
use Rattle.ft_log.specs.Logged.{Logged, Shown, logged}
use Rattle.ft_log.specs.Store.{live, live_from, shown, shown_at}
use Rattle.ft_log.specs.View.{entries_at, entry_in, key_of}
use Rattle.ft_log.specs.declared.error.LogError.{LogError}
use Rattle.ft_log.specs.declared.store.Store.{Store}
use Rattle.ft_log.specs.declared.story.Entry.{Entry}
use Rattle.ft_log.proofs.Listed.{false_from_not}
use Rattle.ft_log.proofs.Live.{entries-live, unexpired-max}

pub shown-is : (clock : ℕ) (s : Store) → logged (shown_at clock s) ≡ live_from clock (logged (shown s))
unfolding logged
shown-is clock s = ap (λ (l : List (KeptOutcome Holding)). record { capacity = s.capacity; share = s.share; entries = l; room = option_map (λ r. key_of r.key.key) s.room }) (entries-live clock s.story.entries)

pub seen : (clock : ℕ) (s : Store) (v : Shown) → shown_at clock s ≡ v → live_from clock (logged (shown s)) ≡ logged v
seen clock s v is = sym (shown-is clock s) ∙ ap logged is

-- at a later clock
pub later : (clock now : ℕ) (l : Logged) → live_from (max clock now) l ≡ live_from now (live_from clock l)
later clock now l = ap (λ (es : List (KeptOutcome Holding)). record l { entries = es }) (unexpired-max clock now l.entries)

-- what is so of a result is so of it once more
pub on_ok : {P Q : Type 0} (r : Result (Unit {0}) LogError) → (P → Q) → OnOk r P → OnOk r Q
on_ok (Ok u) f h = f h
on_ok (Err e) f h = tt

pub on_err : {P Q : Type 0} (r : Result (Unit {0}) LogError) → (P → Q) → OnErr r P → OnErr r Q
on_err (Ok u) f h = tt
on_err (Err e) f h = f h

-- a key that is none of the entries is none of those that are live
none_of : (now : ℕ) (p : RequestKey → Bool) (l : List (KeptOutcome Holding)) → list_any p (keys_of l) ≡ false → list_any p (keys_of (unexpired now l)) ≡ false
none_of now p [] h = refl
none_of now p (e ∷ l) h =
    let parts = or_parts (p e.key) (list_any p (keys_of l)) h in
    let more = none_of now p l parts.1 in
    elim (nat_le now e.expiration) as (λ b. list_any p (keys_of (cond b (e ∷ unexpired now l) (unexpired now l))) ≡ false) [ true ↦ or_from (p e.key) (list_any p (keys_of (unexpired now l))) parts.0 more | false ↦ more ]

pub distinct-unexpired : (now : ℕ) (l : List (KeptOutcome Holding)) → are_distinct (keys_of l) ≡ true → are_distinct (keys_of (unexpired now l)) ≡ true
distinct-unexpired now [] h = refl
distinct-unexpired now (e ∷ l) h =
    let p : RequestKey → Bool = λ k. same_key k e.key in
    let parts = and_parts (not (list_any p (keys_of l))) (are_distinct (keys_of l)) h in
    let more = distinct-unexpired now l parts.1 in
    let none = none_of now p l (false_from_not _ parts.0) in
    elim (nat_le now e.expiration) as (λ b. are_distinct (keys_of (cond b (e ∷ unexpired now l) (unexpired now l))) ≡ true)
    [ true ↦ and_from (not (list_any p (keys_of (unexpired now l)))) (are_distinct (keys_of (unexpired now l))) (not_from_false _ none) more | false ↦ more ]

-- what is live and what is not are all
pub other : (now x : ℕ) → nat_lt x now ≡ not (nat_le now x)
other now x = by (nat_lt x now) (nat_le now x) refl refl
  where
    by : (a b : Bool) → nat_lt x now ≡ a → nat_le now x ≡ b → a ≡ not b
    by true true e f = absurd (omega (arith, ltb-true _ _ e, leb-true _ _ f))
    by true false e f = refl
    by false true e f = refl
    by false false e f = absurd (omega (arith, ltb-false _ _ e, leb-false _ _ f))

pub live_or_stale : (now : ℕ) (es : List Entry) → length (unexpired now (entries_at es)) + count_by (λ e. nat_lt e.expiration now) es ≡ length es
live_or_stale now es =
    let all = length-filter_both (λ (e : Entry). nat_le now e.expiration) (λ (e : Entry). nat_lt e.expiration now) (λ e. other now e.expiration) es in
    let stale = length-filter (λ (e : Entry). nat_lt e.expiration now) es in
    let is = ap length (entries-live now es) in
    let many = length-map (live now es) entry_in in
    omega (arith, all, stale, is, many)
