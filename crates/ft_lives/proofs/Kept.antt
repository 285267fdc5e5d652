-- What a store holds, along steps.
use Rattle.std.proofs.Common.{◌≡◌, ◌==◌, ℕ, ◌+◌, ◌<◌, ◌≤◌, Bool, true, false, cond, nat_le, ◌⊎◌, inl, inr, List, [], ◌∷◌, ◌++◌, Option, Some, None, Contains, flat_map, length, refl, sym, ap, subst, ◌∙◌, arith, append_assoc}
use Rattle.std.proofs.lemmas.Bool.{leb-false, leb-true}
use Rattle.std.proofs.lemmas.List.{append-nil}
use Rattle.std.proofs.lemmas.List.Concat.{flat_map-append}
use Rattle.std.proofs.lemmas.List.Elements.{Contains-append_left, Contains-append_right, Contains-push, Contains-push_cases}
use Rattle.ft_log.specs.Keys.{RequestKey, same_key}
use Rattle.ft_log.specs.Kept.{KeptOutcome, kept_for, unexpired}
use Rattle.ft_log.specs.Performed.{Performed}
use Rattle.ft_orb.specs.Deeds.{Deed}
use Rattle.ft_orb.specs.Engines.{Awaited}
use Rattle.ft_lives.specs.Lives.{Did, Step, Stored, asked_by, deeds_of, requests_of, stored, stored_after}
use Rattle.ft_lives.specs.Stores.{Ask, Change, Committed, Other, Purged, Row, Store, changed, empty_store, held_for}
use Rattle.ft_lives.proofs.Lists.{same_is, same_key-self}

-- Steps, one after another.

pub stored-append : (s : Store) (xs ys : List Step) → stored_after s (xs ++ ys) ≡ stored_after (stored_after s xs) ys
stored-append s [] ys = refl
stored-append s (Did n d ∷ xs) ys = stored-append s xs ys
stored-append s (Stored c ∷ xs) ys = stored-append (changed s c) xs ys

pub rows-grow : (s : Store) (xs : List Step) → (more : List Row) × ((stored_after s xs).rows ≡ s.rows ++ more)
rows-grow s [] = ([], sym (append-nil s.rows))
rows-grow s (Did n d ∷ xs) = rows-grow s xs
rows-grow s (Stored (Committed ask row) ∷ xs) =
    let r = rows-grow (changed s (Committed ask row)) xs in
    (row ∷ r.0, r.1 ∙ append_assoc s.rows (row ∷ []) r.0)
rows-grow s (Stored (Purged mark) ∷ xs) = rows-grow (changed s (Purged mark)) xs
rows-grow s (Stored Other ∷ xs) = rows-grow s xs

pub deeds-append : (n : ℕ) (xs ys : List Step) → deeds_of n (xs ++ ys) ≡ deeds_of n xs ++ deeds_of n ys
deeds-append n [] ys = refl
deeds-append n (Did m d ∷ xs) ys =
    let more = deeds-append n xs ys in
    elim (m == n) as (λ b. cond b (d ∷ deeds_of n (xs ++ ys)) (deeds_of n (xs ++ ys)) ≡ cond b (d ∷ deeds_of n xs) (deeds_of n xs) ++ deeds_of n ys)
    [ true ↦ ap (λ (l : List Deed). d ∷ l) more | false ↦ more ]
deeds-append n (Stored c ∷ xs) ys = deeds-append n xs ys

pub requests-append : (n : ℕ) (xs ys : List Step) → requests_of n (xs ++ ys) ≡ requests_of n xs ++ requests_of n ys
requests-append n xs ys = ap (flat_map asked_by) (deeds-append n xs ys) ∙ flat_map-append asked_by (deeds_of n xs) (deeds_of n ys)

-- what was asked for stays so
pub asked-later : (n : ℕ) (steps xs ys : List Step) (w : Awaited) → steps ≡ xs ++ ys → Contains (requests_of n xs) w → Contains (requests_of n steps) w
asked-later n steps xs ys w is there =
    subst (λ (l : List Awaited). Contains l w) (sym (ap (requests_of n) is ∙ requests-append n xs ys)) (Contains-append_left (requests_of n xs) (requests_of n ys) w there)

-- Rows.

-- where nothing is held for the key of a row, that one's expiration lies before the mark
pub none-held : (key : RequestKey) (w : ℕ) (front rest : List Row) (r : Row) → r.key ≡ key → kept_for key (unexpired w (front ++ r ∷ rest)) ≡ None → r.expiration < w
none-held key w [] rest r is none =
    elim (nat_le w r.expiration) as (λ b. nat_le w r.expiration ≡ b → kept_for key (cond b (r ∷ unexpired w rest) (unexpired w rest)) ≡ None → r.expiration < w) [
      | true ↦ λ t none.
          let own : same_key key r.key ≡ true = subst (λ (k : RequestKey). same_key key k ≡ true) (sym is) (same_key-self key) in
          let found : kept_for key (r ∷ unexpired w rest) ≡ Some r.outcome = ap (λ b. cond b (Some r.outcome) (kept_for key (unexpired w rest))) own in
          absurd cc
      | false ↦ λ f none. leb-false w r.expiration f
    ] refl none
none-held key w (y ∷ ys) rest r is none =
    let U = unexpired w (ys ++ r ∷ rest) in
    elim (nat_le w y.expiration) as (λ b. kept_for key (cond b (y ∷ U) U) ≡ None → r.expiration < w) [
      | true ↦ λ none.
          elim (same_key key y.key) as (λ c. cond c (Some y.outcome) (kept_for key U) ≡ None → r.expiration < w)
          [ true ↦ λ none. absurd cc | false ↦ λ none. none-held key w ys rest r is none ] none
      | false ↦ λ none. none-held key w ys rest r is none
    ] none

-- what is held is the outcome of a row of the key
pub record IsRow (key : RequestKey) (w : ℕ) (outcome : Performed) (rows : List Row) : Type 0 where
  pub row : Row
  pub there : Contains rows row
  pub key_is : row.key ≡ key
  pub outcome_is : row.outcome ≡ outcome

one-more : (key : RequestKey) (w : ℕ) (outcome : Performed) (y : Row) (rows : List Row) → IsRow key w outcome rows → IsRow key w outcome (y ∷ rows)
one-more key w outcome y rows r = record { row = r.row; there = Contains-append_right (y ∷ []) rows r.row r.there; key_is = r.key_is; outcome_is = r.outcome_is }

pub row-held : (key : RequestKey) (w : ℕ) (outcome : Performed) (rows : List Row) → kept_for key (unexpired w rows) ≡ Some outcome → IsRow key w outcome rows
row-held key w outcome [] held = absurd cc
row-held key w outcome (y ∷ ys) held =
    let U = unexpired w ys in
    elim (nat_le w y.expiration) as (λ b. kept_for key (cond b (y ∷ U) U) ≡ Some outcome → IsRow key w outcome (y ∷ ys)) [
      | true ↦ λ held.
          elim (same_key key y.key) as (λ c. same_key key y.key ≡ c → cond c (Some y.outcome) (kept_for key U) ≡ Some outcome → IsRow key w outcome (y ∷ ys)) [
            | true ↦ λ same held. record { row = y; there = Contains-append_left (y ∷ []) ys y (Contains-push [] y); key_is = sym (same_is key y.key same); outcome_is = cc }
            | false ↦ λ same held. one-more key w outcome y ys (row-held key w outcome ys held)
          ] refl held
      | false ↦ λ held. one-more key w outcome y ys (row-held key w outcome ys held)
    ] held

-- a row was committed in a step
pub record WasCommitted (steps : List Step) (row : Row) : Type 0 where
  pub front : List Step
  pub rest : List Step
  pub ask : Ask
  pub is : steps ≡ front ++ Stored (Committed ask row) ∷ rest

pub was-later : (x : Step) (steps : List Step) (row : Row) → WasCommitted steps row → WasCommitted (x ∷ steps) row
was-later x steps row w = record { front = x ∷ w.front; rest = w.rest; ask = w.ask; is = ap (λ (l : List Step). x ∷ l) w.is }

committed-from : (s : Store) (steps : List Step) (row : Row) → Contains (stored_after s steps).rows row → Contains s.rows row ⊎ WasCommitted steps row
committed-from s [] row there = inl there
committed-from s (Did n d ∷ steps) row there = elim (committed-from s steps row there) [ inl h ↦ inl h | inr w ↦ inr (was-later (Did n d) steps row w) ]
committed-from s (Stored (Committed ask new) ∷ steps) row there =
    elim (committed-from (changed s (Committed ask new)) steps row there) [
      | inl h ↦ elim (Contains-push_cases s.rows new row h) [
        | inl h ↦ inl h
        | inr is ↦ inr (record { front = []; rest = steps; ask = ask; is = ap (λ (r : Row). Stored (Committed ask r) ∷ steps) is })
      ]
      | inr w ↦ inr (was-later (Stored (Committed ask new)) steps row w)
    ]
committed-from s (Stored (Purged mark) ∷ steps) row there = elim (committed-from (changed s (Purged mark)) steps row there) [ inl h ↦ inl h | inr w ↦ inr (was-later (Stored (Purged mark)) steps row w) ]
committed-from s (Stored Other ∷ steps) row there = elim (committed-from s steps row there) [ inl h ↦ inl h | inr w ↦ inr (was-later (Stored Other) steps row w) ]

pub committed-row : (steps : List Step) (row : Row) → Contains (stored steps).rows row → WasCommitted steps row
committed-row steps row there = elim (committed-from empty_store steps row there) [ inl h ↦ absurd (omega (arith, h.1)) | inr w ↦ w ]
