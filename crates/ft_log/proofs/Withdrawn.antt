-- The entries without the one that is parked under a number.
use Rattle.std.proofs.Common.{◌≡◌, ℕ, ◌&&◌, Bool, true, false, not, cond, List, [], ◌∷◌, Option, Some, refl, sym, ap, ◌∙◌}
use Rattle.std.specs.List.{list_any}
use Rattle.std.specs.Option.{option_map_or}
use Rattle.std.proofs.lemmas.Bool.{and_parts, or_parts}
use Rattle.ft_log.specs.Holding.{Holding}
use Rattle.ft_log.specs.Keys.{RequestKey, are_distinct, same_key}
use Rattle.ft_log.specs.Kept.{KeptOutcome, is_parked, withdrawn}
use Rattle.ft_log.specs.Tied.{outcome_for}
use Rattle.ft_log.specs.View.{entries_at, entry_in, holding_in, key_of}
use Rattle.ft_log.specs.Without.{without}
use Rattle.ft_log.specs.declared.held.Held.{Held}
use Rattle.ft_log.specs.declared.story.Entry.{Entry}
use Rattle.ft_log.proofs.Entries.{keys_at, same_comm, without_none}
use Rattle.ft_log.proofs.Listed.{false_from_not, same_is}

-- whether the call of this number is parked there
abbrev pub is_parked_in : ℕ → Option Held → Bool
is_parked_in number o = option_map_or (λ h. is_parked number (holding_in h)) o false

-- where no entry has the key, all of them stay
module _ (key : RequestKey) where
  abbrev NoneHas : List Entry → Type 0
  NoneHas es = list_any (λ later. same_key later key) (keys_at es) ≡ false

  not_it : (e : Entry) (es : List Entry) → NoneHas (e ∷ es) → same_key key (key_of e.key) ≡ false
  not_it e es h = same_comm key (key_of e.key) ∙ (or_parts (same_key (key_of e.key) key) (list_any (λ later. same_key later key) (keys_at es)) h).0

  later : (e : Entry) (es : List Entry) → NoneHas (e ∷ es) → NoneHas es
  later e es h = (or_parts (same_key (key_of e.key) key) (list_any (λ later. same_key later key) (keys_at es)) h).1

  withdrawn-none : (number : ℕ) (es : List Entry) → NoneHas es → withdrawn key number (entries_at es) ≡ entries_at es
  withdrawn-none number [] h = refl
  withdrawn-none number (e ∷ es) h =
      (λ i. cond (not (not_it e es h i && is_parked number (holding_in e.outcome))) (entry_in e ∷ withdrawn key number (entries_at es)) (withdrawn key number (entries_at es)))
      ∙ ap (λ (l : List (KeptOutcome Holding)). entry_in e ∷ l) (withdrawn-none number es (later e es h))

pub entries-withdrawn : (key : RequestKey) (number : ℕ) (es : List Entry) → are_distinct (keys_at es) ≡ true
    → withdrawn key number (entries_at es) ≡ entries_at (cond (is_parked_in number (outcome_for key es)) (without key es) es)
entries-withdrawn key number [] distinct = refl
entries-withdrawn key number (e ∷ es) distinct = by (entries-withdrawn key number es parts.1) (same_key key (key_of e.key)) refl
  where
    parts : (not (list_any (λ later. same_key later (key_of e.key)) (keys_at es)) ≡ true) × (are_distinct (keys_at es) ≡ true)
    parts = and_parts (not (list_any (λ later. same_key later (key_of e.key)) (keys_at es))) (are_distinct (keys_at es)) distinct

    by : withdrawn key number (entries_at es) ≡ entries_at (cond (is_parked_in number (outcome_for key es)) (without key es) es) → (b : Bool) → same_key key (key_of e.key) ≡ b
        → cond (not (b && is_parked number (holding_in e.outcome))) (entry_in e ∷ withdrawn key number (entries_at es)) (withdrawn key number (entries_at es))
        ≡ entries_at (cond (is_parked_in number (cond b (Some e.outcome) (outcome_for key es))) (cond (not b) (e ∷ without key es) (without key es)) (e ∷ es))
    by more true t =
        let none : list_any (λ later. same_key later key) (keys_at es) ≡ false =
        ap (λ (k : RequestKey). list_any (λ later. same_key later k) (keys_at es)) (same_is key (key_of e.key) t) ∙ false_from_not _ parts.0 in
        elim (is_parked number (holding_in e.outcome)) as (λ (p : Bool). cond (not p) (entry_in e ∷ withdrawn key number (entries_at es)) (withdrawn key number (entries_at es)) ≡ entries_at (cond p (without key es) (e ∷ es))) [
          | true ↦ withdrawn-none key number es none ∙ sym (ap (λ (l : List Entry). entries_at l) (without_none key es none))
          | false ↦ ap (λ (l : List (KeptOutcome Holding)). entry_in e ∷ l) (withdrawn-none key number es none)
        ]
    by more false t =
        ap (λ (l : List (KeptOutcome Holding)). entry_in e ∷ l) more
        ∙ (elim (is_parked_in number (outcome_for key es)) as (λ (q : Bool). entry_in e ∷ entries_at (cond q (without key es) es) ≡ entries_at (cond q (e ∷ without key es) (e ∷ es))) [ true ↦ refl | false ↦ refl ])
