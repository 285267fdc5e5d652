-- The rows of a store in memory, one after another.
use Rattle.std.proofs.Common.{◌≡◌, ℕ, ◌<◌, ◌≤◌, max, Bool, true, false, cond, nat_le, ◌&&◌, List, [], ◌∷◌, ◌++◌, ◌+◌, length, map, Contains, inl, drop, get_or, filter, Option, Some, None, is_some, Bor, refl, sym, ap, subst, ◌∙◌, arith, add-one}
use Rattle.std.specs.Option.{option_map}
use Rattle.std.proofs.Math.Seq.{drop-cons}
use Rattle.std.proofs.lemmas.Bool.{le-leb}
use Rattle.std.proofs.lemmas.List.{map-append}
use Rattle.std.proofs.lemmas.List.Elements.{filter-append}
use Rattle.ft_log.specs.Keys.{RequestKey, same_key}
use Rattle.ft_log.specs.Kept.{kept_for, unexpired}
use Rattle.ft_log.specs.Performed.{Performed}
use Rattle.ft_log.specs.View.{key_of, performed_in}
use Rattle.ft_orb.specs.Requests.{Call}
use Rattle.ft_lives.specs.declared.row.Kept.{Kept}
use Rattle.ft_lives.specs.Memory.{row_in, rows_in}
use Rattle.ft_lives.specs.Stores.{Ask, Committed, Row, Store}
use Rattle.ft_lives.specs.Steps.{AreOthers, Doubt, IsDone, IsDoubtful, Passes, Shown}
use Rattle.ft_lives.proofs.Keeping.{unexpired-twice}
use Rattle.ft_lives.proofs.Tried.{own-commit}

-- by the first row ..
pub first-row : (key : RequestKey) (mark : ℕ) (x : Kept) (xs : List Kept) (b : Bool) → b ≡ (nat_le mark x.expiration && same_key key (key_of x.key))
    → kept_for key (unexpired mark (rows_in (x ∷ xs))) ≡ cond b (Some (performed_in x.outcome)) (kept_for key (unexpired mark (rows_in xs)))
first-row key mark x xs b is =
    let U = unexpired mark (rows_in xs) in
    let here : Option _ = Some (performed_in x.outcome) in
    elim (nat_le mark x.expiration) as (λ t. b ≡ (t && same_key key (key_of x.key)) → kept_for key (cond t (row_in x ∷ U) U) ≡ cond b here (kept_for key U)) [
      | true ↦ λ is. ap (λ (z : Bool). cond z here (kept_for key U)) (sym is)
      | false ↦ λ is. ap (λ (z : Bool). cond z here (kept_for key U)) (sym is)
    ] is

-- .. and by that at an index
pub row-at : (key : RequestKey) (mark : ℕ) (rows : List Kept) (i : ℕ) (x : Kept) (b : Bool) → i < length rows → x ≡ get_or rows i x → b ≡ (nat_le mark x.expiration && same_key key (key_of x.key))
    → kept_for key (unexpired mark (rows_in (drop i rows))) ≡ cond b (Some (performed_in x.outcome)) (kept_for key (unexpired mark (rows_in (drop (i + 1) rows))))
row-at key mark rows i x b less at is =
    let split : drop i rows ≡ x ∷ drop (i + 1) rows = drop-cons rows i x less ∙ (λ k. sym at k ∷ drop (sym (add-one i) k) rows) in
    ap (λ (l : List Kept). kept_for key (unexpired mark (rows_in l))) split ∙ first-row key mark x (drop (i + 1) rows) b is

rows-filter : (mark : ℕ) (rows : List Kept) → rows_in (filter (λ row. nat_le mark row.expiration) rows) ≡ unexpired mark (rows_in rows)
rows-filter mark [] = refl
rows-filter mark (x ∷ xs) =
    let rest = rows-filter mark xs in
    let F = filter (λ (row : Kept). nat_le mark row.expiration) xs in
    elim (nat_le mark x.expiration) as (λ t. rows_in (cond t (x ∷ F) F) ≡ cond t (row_in x ∷ unexpired mark (rows_in xs)) (unexpired mark (rows_in xs)))
    [ true ↦ ap (λ (l : List Row). row_in x ∷ l) rest | false ↦ rest ]

-- what is left once rows are taken out, at a later mark
pub purged : (was mark : ℕ) (rows : List Kept) → was ≤ mark → unexpired mark (rows_in (filter (λ row. nat_le mark row.expiration) rows)) ≡ unexpired mark (unexpired was (rows_in rows))
purged was mark rows h = ap (unexpired mark) (rows-filter mark rows) ∙ unexpired-twice mark mark (rows_in rows) (omega arith) ∙ sym (unexpired-twice was mark (rows_in rows) h)

-- what is held among those that are held
pub held-twice : (key : RequestKey) (mark : ℕ) (rows : List Row) → kept_for key (unexpired mark (unexpired mark rows)) ≡ kept_for key (unexpired mark rows)
held-twice key mark rows = ap (kept_for key) (unexpired-twice mark mark rows (omega arith))

-- where no row was found none is held
pub nothing-there : (key : RequestKey) (mark : ℕ) (items looked : List Kept) (found : Option (Bor Kept)) → looked ≡ items → option_map (λ (row : Bor Kept). performed_in row.now.outcome) found ≡ kept_for key (unexpired mark (rows_in looked))
    → is_some found ≡ false → kept_for key (unexpired mark (rows_in items)) ≡ None
nothing-there key mark items looked None same held none = ap (λ (l : List Kept). kept_for key (unexpired mark (rows_in l))) (sym same) ∙ sym held
nothing-there key mark items looked (Some row) same held none = absurd cc

-- A row comes last of all, and its effect is there.
module _ {S : Type 0} (apply : S → Call → S × Performed) (d : Doubt) (mark : ℕ) (items : List Kept) (k : Kept) (outcome : Performed) (old new : S) where
  rows-more : row_in k ≡ record { key = d.key; expiration = d.expiration; outcome = outcome } → mark ≤ d.expiration
      → unexpired mark (rows_in (items ++ k ∷ [])) ≡ unexpired mark (rows_in items) ++ record { key = d.key; expiration = d.expiration; outcome = outcome } ∷ []
  rows-more is within =
      let row : Row = record { key = d.key; expiration = d.expiration; outcome = outcome } in
      let test = λ (r : Row). nat_le mark r.expiration in
      ap (unexpired mark) (map-append row_in items (k ∷ []) ∙ ap (λ (r : Row). rows_in items ++ r ∷ []) is) ∙ filter-append test (rows_in items) (row ∷ [])
      ∙ ap (λ (b : Bool). unexpired mark (rows_in items) ++ cond b (row ∷ []) []) (le-leb mark d.expiration within)

  pub commits : (now : List Kept) → now ≡ items ++ k ∷ [] → row_in k ≡ record { key = d.key; expiration = d.expiration; outcome = outcome } → kept_for d.key (unexpired mark (rows_in items)) ≡ None → mark ≤ d.expiration → apply old d.ask.call ≡ (new, outcome)
      → Passes apply (record { store = record { rows = unexpired mark (rows_in items); mark = mark }; state = old; doubts = [] }) (Committed d.ask (record { key = d.key; expiration = d.expiration; outcome = outcome }) ∷ [])
      (record { store = record { rows = unexpired mark (rows_in now); mark = mark }; state = new; doubts = [] })
  commits now is_now is free within effect = record {
    allowed = ((held-twice d.key mark (rows_in items) ∙ free, within), tt);
    store = ap (λ (l : List Row). record { rows = l; mark = mark }) (ap (λ (l : List Kept). unexpired mark (rows_in l)) is_now ∙ rows-more is within);
    state = (ap (λ (x : S × Performed). x.1) (sym effect), ap (λ (x : S × Performed). x.0) effect);
  }

  pub memory-done : (life : ℕ) (now : List Kept) → now ≡ items ++ k ∷ [] → row_in k ≡ record { key = d.key; expiration = d.expiration; outcome = outcome } → kept_for d.key (unexpired mark (rows_in items)) ≡ None → mark ≤ d.expiration → apply old d.ask.call ≡ (new, outcome)
      → IsDone apply life d outcome (record { store = record { rows = unexpired mark (rows_in items); mark = mark }; state = old; doubts = [] }) (record { store = record { rows = unexpired mark (rows_in now); mark = mark }; state = new; doubts = [] })
  memory-done life now is_now is free within effect = record {
    changes = [];
    passes = commits now is_now is free within effect;
    others = λ ask row there own. absurd (omega (arith, there.1));
    doubts = refl;
  }

  pub memory-doubtful : (life : ℕ) (now : List Kept) → now ≡ items ++ k ∷ [] → row_in k ≡ record { key = d.key; expiration = d.expiration; outcome = outcome } → kept_for d.key (unexpired mark (rows_in items)) ≡ None → mark ≤ d.expiration → apply old d.ask.call ≡ (new, outcome)
      → IsDoubtful apply life d (record { store = record { rows = unexpired mark (rows_in items); mark = mark }; state = old; doubts = [] }) (record { store = record { rows = unexpired mark (rows_in now); mark = mark }; state = new; doubts = [] })
  memory-doubtful life now is_now is free within effect = record {
    changes = Committed d.ask (record { key = d.key; expiration = d.expiration; outcome = outcome }) ∷ [];
    passes = commits now is_now is free within effect;
    others = own-commit life d [] outcome;
    doubts = inl refl;
  }
