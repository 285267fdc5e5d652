-- What is found under a key at a moment.
use Rattle.std.proofs.Common.{◌≡◌, ℕ, ◌+◌, ◌<◌, Bool, true, false, not, ◌==◌, cond, nat_le, List, [], ◌∷◌, Option, Some, None, option_map, unwrap_or, refl, sym, ap, ◌∙◌, arith}
use mir.Syntax.{w32}
use mir.Val.{to_z}
use Rattle.std.specs.List.{list_any, sum_by}
use Rattle.std.specs.Map.{lookup}
use Rattle.std.proofs.lemmas.Bool.{and_parts, and_from, eq-eqb}
use Rattle.std.proofs.lemmas.List.Sums.{sum_by-cons}
use Rattle.std.proofs.lemmas.Option.{none-some, same_Some}
use Rattle.ft_log.specs.Holding.{Holding}
use Rattle.ft_log.specs.Keys.{RequestKey, are_distinct, same_key}
use Rattle.ft_log.specs.Kept.{KeptOutcome, kept_for, unexpired}
use Rattle.ft_log.specs.Maps.{due_at, key_in}
use Rattle.ft_log.specs.Names.{is_named, named_so}
use Rattle.ft_log.specs.Shelf.{at_key, live_at}
use Rattle.ft_log.specs.Tied.{AreOutcomes, due_of, outcome_for}
use Rattle.ft_log.specs.View.{entries_at, entry_in, holding_in, key_of}
use Rattle.ft_log.specs.Without.{without}
use Rattle.ft_log.specs.declared.held.Held.{Held}
use Rattle.ft_log.specs.declared.name.Name.{Name}
use Rattle.ft_log.specs.declared.shelf.Kept.{Kept}
use Rattle.ft_log.specs.declared.shelf.Shelf.{Shelf}
use Rattle.ft_log.specs.declared.story.Entry.{Entry}
use Rattle.ft_log.proofs.Entries.{keys_at, one, same_comm}
use Rattle.ft_log.proofs.Listed.{false_from_not, itself, same_is}
use Rattle.ft_log.proofs.Slotted.{outcome_none}
use Rattle.ft_log.proofs.Timed.{no_one, one_is, ones_left}

-- an entry of another key is passed over, live or not
passed : (now : ℕ) (key : RequestKey) (e : Entry) (es : List Entry) → same_key key (key_of e.key) ≡ false → kept_for key (unexpired now (entries_at (e ∷ es))) ≡ kept_for key (unexpired now (entries_at es))
passed now key e es t =
    let later : List (KeptOutcome Holding) = unexpired now (entries_at es) in
    elim (nat_le now e.expiration) as (λ b. kept_for key (cond b (entry_in e ∷ later) later) ≡ kept_for key later)
    [ true ↦ λ i. cond (t i) (Some (holding_in e.outcome)) (kept_for key later) | false ↦ refl ]

-- nothing is found where no entry has the key
pub none_live : (now : ℕ) (key : RequestKey) (es : List Entry) → outcome_for key es ≡ None → kept_for key (unexpired now (entries_at es)) ≡ None
none_live now key [] h = refl
none_live now key (e ∷ es) h = by (same_key key (key_of e.key)) refl h (none_live now key es)
  where
    by : (b : Bool) → same_key key (key_of e.key) ≡ b → cond b (Some e.outcome) (outcome_for key es) ≡ None → (outcome_for key es ≡ None → kept_for key (unexpired now (entries_at es)) ≡ None)
        → kept_for key (unexpired now (entries_at (e ∷ es))) ≡ None
    by true t is more = absurd (none-some e.outcome (sym is))
    by false t is more = passed now key e es t ∙ more is

-- none is left out then
pub without-absent : (key : RequestKey) (es : List Entry) → outcome_for key es ≡ None → without key es ≡ es
without-absent key [] h = refl
without-absent key (e ∷ es) h = by (same_key key (key_of e.key)) refl h (without-absent key es)
  where
    by : (b : Bool) → same_key key (key_of e.key) ≡ b → cond b (Some e.outcome) (outcome_for key es) ≡ None → (outcome_for key es ≡ None → without key es ≡ es) → cond (not b) (e ∷ without key es) (without key es) ≡ e ∷ es
    by true t is more = absurd (none-some e.outcome (sym is))
    by false t is more = ap (λ (l : List Entry). e ∷ l) (more is)

no_ones : (u : ℕ) (key : RequestKey) (es : List Entry) → outcome_for key es ≡ None → sum_by (λ e. one u key (due_of e)) es ≡ 0
no_ones u key es h = sym (ap (sum_by (λ (e : Entry). one u key (due_of e))) (without-absent key es h)) ∙ ones_left u key es

-- of distinct keys no later one is the first
absent : (e : Entry) (es : List Entry) → are_distinct (keys_at (e ∷ es)) ≡ true → outcome_for (key_of e.key) es ≡ None
absent e es distinct =
    let parts = and_parts (not (list_any (λ later. same_key later (key_of e.key)) (keys_at es))) (are_distinct (keys_at es)) distinct in
    let same : list_any (λ k. same_key (key_of e.key) k) (keys_at es) ≡ list_any (λ k. same_key k (key_of e.key)) (keys_at es) = ap (λ (f : RequestKey → Bool). list_any f (keys_at es)) (λ i k. same_comm (key_of e.key) k i) in
    outcome_none (key_of e.key) es (same ∙ false_from_not _ parts.0)

-- what is found is there until it expires
found_live : (now u : ℕ) (key : RequestKey) (es : List Entry) (o : Held) → are_distinct (keys_at es) ≡ true → outcome_for key es ≡ Some o → 0 < sum_by (λ e. one u key (due_of e)) es
    → kept_for key (unexpired now (entries_at es)) ≡ option_map holding_in (cond (nat_le now u) (Some o) None)
found_live now u key [] o distinct h there = absurd (none-some o h)
found_live now u key (e ∷ es) o distinct h there = by (same_key key (key_of e.key)) refl h (found_live now u key es o parts.1)
  where
    parts : (not (list_any (λ later. same_key later (key_of e.key)) (keys_at es)) ≡ true) × (are_distinct (keys_at es) ≡ true)
    parts = and_parts (not (list_any (λ later. same_key later (key_of e.key)) (keys_at es))) (are_distinct (keys_at es)) distinct

    all : sum_by (λ z. one u key (due_of z)) (e ∷ es) ≡ one u key (due_of e) + sum_by (λ z. one u key (due_of z)) es
    all = sum_by-cons (λ (z : Entry). one u key (due_of z)) e es

    by : (b : Bool) → same_key key (key_of e.key) ≡ b → cond b (Some e.outcome) (outcome_for key es) ≡ Some o
        → (outcome_for key es ≡ Some o → 0 < sum_by (λ z. one u key (due_of z)) es → kept_for key (unexpired now (entries_at es)) ≡ option_map holding_in (cond (nat_le now u) (Some o) None))
        → kept_for key (unexpired now (entries_at (e ∷ es))) ≡ option_map holding_in (cond (nat_le now u) (Some o) None)
    by true t is more =
        let none : outcome_for key es ≡ None = ap (λ k. outcome_for k es) (same_is key (key_of e.key) t) ∙ absent e es distinct in
        let till : u ≡ e.expiration = one_is u e.expiration (same_key key (key_of e.key)) (omega (arith, there, all, no_ones u key es none)) in
        let own : e.outcome ≡ o = same_Some e.outcome o is in
        let later : List (KeptOutcome Holding) = unexpired now (entries_at es) in
        (elim (nat_le now e.expiration) as (λ b. kept_for key (cond b (entry_in e ∷ later) later) ≡ option_map holding_in (cond b (Some e.outcome) None))
        [ true ↦ λ i. cond (t i) (Some (holding_in e.outcome)) (kept_for key later) | false ↦ none_live now key es none ])
        ∙ (λ i. option_map holding_in (cond (nat_le now (sym till i)) (Some (own i)) None))
    by false t is more = passed now key e es t ∙ more is (omega (arith, there, all, no_one u key e t))

-- what stands under a key counts as one of its expiration
under_there : (key : RequestKey) (ps : List (Name × Kept)) (k : Kept) → lookup (is_named key.client_id (Some key.retention_id)) ps ≡ Some k → 0 < sum_by (λ p. one k.until key (due_at p)) ps
under_there key [] k h = absurd (none-some k h)
under_there key (p ∷ ps) k h = by (is_named key.client_id (Some key.retention_id) p.0) refl h (under_there key ps k)
  where
    all : sum_by (λ q. one k.until key (due_at q)) (p ∷ ps) ≡ one k.until key (due_at p) + sum_by (λ q. one k.until key (due_at q)) ps
    all = sum_by-cons (λ (q : Name × Kept). one k.until key (due_at q)) p ps

    by : (b : Bool) → is_named key.client_id (Some key.retention_id) p.0 ≡ b → cond b (Some p.1) (lookup (is_named key.client_id (Some key.retention_id)) ps) ≡ Some k
        → (lookup (is_named key.client_id (Some key.retention_id)) ps ≡ Some k → 0 < sum_by (λ q. one k.until key (due_at q)) ps) → 0 < sum_by (λ q. one k.until key (due_at q)) (p ∷ ps)
    by true t is more =
        let named = named_so key.client_id (Some key.retention_id) p.0 t in
        let same : key_in p.0 ≡ key = λ i. record { client_id = sym named.client i; retention_id = unwrap_or (sym named.number i) (to_z w32 0) } in
        let until : p.1.until ≡ k.until = ap (λ (x : Kept). x.until) (same_Some p.1 k is) in
        let here : one k.until key (due_at p) ≡ 1 = ap (λ b. cond b 1 0) (and_from (p.1.until == k.until) (same_key key (key_in p.0)) (eq-eqb p.1.until k.until until) (ap (same_key key) same ∙ itself key)) in
        omega (arith, all, here)
    by false t is more = let later = more is in omega (arith, all, later)

-- what a shelf has under a key at a moment
pub found_at : (m : Shelf) (es : List Entry) → AreOutcomes m es → are_distinct (keys_at es) ≡ true → ((f : ℕ × RequestKey → ℕ) → sum_by (λ p. f (due_at p)) m.outcomes.entries ≡ sum_by (λ e. f (due_of e)) es)
    → (now : ℕ) (key : RequestKey) → option_map holding_in (live_at now (at_key m key)) ≡ kept_for key (unexpired now (entries_at es))
found_at m es found distinct listed now key = by (at_key m key) refl
  where
    by : (o : Option Kept) → at_key m key ≡ o → option_map holding_in (live_at now o) ≡ kept_for key (unexpired now (entries_at es))
    by None e = sym (none_live now key es (sym (found key) ∙ ap (option_map (λ k. k.outcome)) e))
    by (Some k) e =
        let there = under_there key m.outcomes.entries k e in
        sym (found_live now k.until key es k.outcome distinct (sym (found key) ∙ ap (option_map (λ x. x.outcome)) e) (omega (arith, there, listed (one k.until key))))

-- the entry of a key that is not found is not live
pub unexpired-without : (now : ℕ) (key : RequestKey) (es : List Entry) → are_distinct (keys_at es) ≡ true → kept_for key (unexpired now (entries_at es)) ≡ None
    → unexpired now (entries_at (without key es)) ≡ unexpired now (entries_at es)
unexpired-without now key [] distinct h = refl
unexpired-without now key (e ∷ es) distinct h = by (same_key key (key_of e.key)) refl (unexpired-without now key es parts.1)
  where
    parts : (not (list_any (λ later. same_key later (key_of e.key)) (keys_at es)) ≡ true) × (are_distinct (keys_at es) ≡ true)
    parts = and_parts (not (list_any (λ later. same_key later (key_of e.key)) (keys_at es))) (are_distinct (keys_at es)) distinct

    by : (b : Bool) → same_key key (key_of e.key) ≡ b → (kept_for key (unexpired now (entries_at es)) ≡ None → unexpired now (entries_at (without key es)) ≡ unexpired now (entries_at es))
        → unexpired now (entries_at (cond (not b) (e ∷ without key es) (without key es))) ≡ unexpired now (entries_at (e ∷ es))
    by true t more =
        let none : outcome_for key es ≡ None = ap (λ k. outcome_for k es) (same_is key (key_of e.key) t) ∙ absent e es distinct in
        more (none_live now key es none)
        ∙ (elim (nat_le now e.expiration) as (λ b. kept_for key (cond b (entry_in e ∷ unexpired now (entries_at es)) (unexpired now (entries_at es))) ≡ None → unexpired now (entries_at es) ≡ cond b (entry_in e ∷ unexpired now (entries_at es)) (unexpired now (entries_at es)))
        [ true ↦ λ k. absurd (none-some (holding_in e.outcome) (sym ((λ i. cond (sym t i) (Some (holding_in e.outcome)) (kept_for key (unexpired now (entries_at es)))) ∙ k))) | false ↦ λ k. refl ]) h
    by false t more =
        ap (λ (l : List (KeptOutcome Holding)). cond (nat_le now e.expiration) (entry_in e ∷ l) l) (more (sym (passed now key e es t) ∙ h))

-- nothing is left of a key
pub kept_for-without : (key : RequestKey) (es : List Entry) → kept_for key (entries_at (without key es)) ≡ None
kept_for-without key [] = refl
kept_for-without key (e ∷ es) = by (same_key key (key_of e.key)) refl (kept_for-without key es)
  where
    by : (b : Bool) → same_key key (key_of e.key) ≡ b → kept_for key (entries_at (without key es)) ≡ None → kept_for key (entries_at (cond (not b) (e ∷ without key es) (without key es))) ≡ None
    by true t h = h
    by false t h = (λ i. cond (t i) (Some (holding_in e.outcome)) (kept_for key (entries_at (without key es)))) ∙ h

-- .. and nothing comes
pub kept_for-still : (key other : RequestKey) (es : List Entry) → kept_for key (entries_at es) ≡ None → kept_for key (entries_at (without other es)) ≡ None
kept_for-still key other [] h = refl
kept_for-still key other (e ∷ es) h = by (same_key key (key_of e.key)) refl h (kept_for-still key other es)
  where
    by : (b : Bool) → same_key key (key_of e.key) ≡ b → cond b (Some (holding_in e.outcome)) (kept_for key (entries_at es)) ≡ None → (kept_for key (entries_at es) ≡ None → kept_for key (entries_at (without other es)) ≡ None)
        → kept_for key (entries_at (cond (not (same_key other (key_of e.key))) (e ∷ without other es) (without other es))) ≡ None
    by true t is more = absurd (none-some (holding_in e.outcome) (sym is))
    by false t is more =
        elim (same_key other (key_of e.key)) as (λ b. kept_for key (entries_at (cond (not b) (e ∷ without other es) (without other es))) ≡ None)
        [ true ↦ more is | false ↦ (λ i. cond (t i) (Some (holding_in e.outcome)) (kept_for key (entries_at (without other es)))) ∙ more is ]
