-- What expired among the outcomes of a shelf, and where one of them stands.
use Rattle.std.proofs.Common.{◌≡◌, ℕ, zero, suc, ◌+◌, ◌<◌, ◌≤◌, ◌&&◌, ◌==◌, Bool, true, false, cond, nat_le, nat_lt, bytes_eq, List, [], ◌∷◌, slice_get, Option, Some, None, is_some, option_map, unwrap_or, refl, sym, ap, ◌∙◌, true≢false, arith}
use mir.Syntax.{w32}
use mir.Val.{to_z}
use Rattle.std.specs.List.{count_by, sum_by}
use Rattle.std.specs.Map.{lookup}
use Rattle.std.proofs.lemmas.Bool.{and_from, eq-eqb, leb-false, ltb-false}
use Rattle.std.proofs.lemmas.List.Sums.{sum_by-cons}
use Rattle.std.proofs.lemmas.Option.{none-some, same_Some}
use Rattle.ft_log.specs.Keys.{RequestKey, are_distinct, held_of, same_key}
use Rattle.ft_log.specs.Kept.{keys_of, unexpired}
use Rattle.ft_log.specs.Maps.{due_at, key_in}
use Rattle.ft_log.specs.Names.{is_named, named_so}
use Rattle.ft_log.specs.Shelf.{IsStale, at_key, is_stale, slot_at}
use Rattle.ft_log.specs.Tied.{AreOutcomes, due_of}
use Rattle.ft_log.specs.View.{entries_at, key_of}
use Rattle.ft_log.specs.declared.due.Spot.{Spot}
use Rattle.ft_log.specs.declared.name.Name.{Name}
use Rattle.ft_log.specs.declared.shelf.Kept.{Kept}
use Rattle.ft_log.specs.declared.shelf.Shelf.{Shelf}
use Rattle.ft_log.specs.declared.story.Entry.{Entry}
use Rattle.ft_log.proofs.Entries.{IsLeft, held_sum, keys_at, left_from, one, split}
use Rattle.ft_log.proofs.Listed.{itself}
use Rattle.ft_log.proofs.Placing.{place_of}
use Rattle.ft_log.proofs.Queued.{none_parts}
use Rattle.ft_log.proofs.Scanned.{held_many}
use Rattle.ft_log.proofs.Slotted.{none_left}

at_most_one : (b : Bool) → cond b 1 0 ≤ 1
at_most_one true = omega arith
at_most_one false = omega arith

-- what stands in a place is counted
counted_at : {X : Type 0} (p : X → Bool) (xs : List X) (i : ℕ) (x : X) → slice_get xs i ≡ Some x → p x ≡ true → 0 < count_by p xs
counted_at p [] i x at t = absurd (none-some x at)
counted_at p (y ∷ ys) zero x at t =
    let all = sum_by-cons (λ z. cond (p z) 1 0) y ys in
    let here : ◌≡◌ {A = ℕ} (cond (p y) 1 0) 1 = ap (λ b. cond b 1 0) (ap p (same_Some y x at) ∙ t) in
    omega (arith, all, here)
counted_at p (y ∷ ys) (suc i) x at t =
    let all = sum_by-cons (λ z. cond (p z) 1 0) y ys in
    let later = counted_at p ys i x at t in
    omega (arith, all, later)

module _ (key : RequestKey) where
  abbrev own : Name × Kept → Bool
  own p = same_key (key_in p.0) key

  -- what is found under a key is of that key ..
  is_own : (n : Name) → is_named key.client_id (Some key.retention_id) n ≡ true → same_key (key_in n) key ≡ true
  is_own n t =
      let named = named_so key.client_id (Some key.retention_id) n t in
      let same : key_in n ≡ key = λ i. record { client_id = sym named.client i; retention_id = unwrap_or (sym named.number i) (to_z w32 0) } in
      ap (λ k. same_key k key) same ∙ itself key

  -- .. and is counted
  counted_under : (ps : List (Name × Kept)) (k : Kept) → lookup (is_named key.client_id (Some key.retention_id)) ps ≡ Some k → 0 < count_by own ps
  counted_under ps k h =
      let it = place_of (is_named key.client_id (Some key.retention_id)) ps k h in
      counted_at own ps it.place (it.name, k) it.at (is_own it.name it.passes)

  -- where one at most is of a key, it is what is found
  found_there : (ps : List (Name × Kept)) (i : ℕ) (p : Name × Kept) (k : Kept) → slice_get ps i ≡ Some p → own p ≡ true → count_by own ps ≤ 1
      → lookup (is_named key.client_id (Some key.retention_id)) ps ≡ Some k → k ≡ p.1
  found_there [] i p k at is few h = absurd (none-some k h)
  found_there (q ∷ qs) i p k at is few h = by (is_named key.client_id (Some key.retention_id) q.0) refl h i at (λ j there fewer later. found_there qs j p k there is fewer later)
    where
      all : count_by own (q ∷ qs) ≡ cond (own q) 1 0 + count_by own qs
      all = sum_by-cons (λ z. cond (own z) 1 0) q qs

      by : (b : Bool) → is_named key.client_id (Some key.retention_id) q.0 ≡ b → cond b (Some q.1) (lookup (is_named key.client_id (Some key.retention_id)) qs) ≡ Some k
          → (j : ℕ) → slice_get (q ∷ qs) j ≡ Some p
          → ((j : ℕ) → slice_get qs j ≡ Some p → count_by own qs ≤ 1 → lookup (is_named key.client_id (Some key.retention_id)) qs ≡ Some k → k ≡ p.1) → k ≡ p.1
      by true t here zero there more = sym (same_Some q.1 k here) ∙ ap (λ (x : Name × Kept). x.1) (same_Some q p there)
      by true t here (suc j) there more =
          let first : ◌≡◌ {A = ℕ} (cond (own q) 1 0) 1 = ap (λ b. cond b 1 0) (is_own q.0 t) in
          let later = counted_at own qs j p there is in
          absurd (omega (arith, all, few, first, later))
      by false t later zero there more =
          let first : ◌≡◌ {A = ℕ} (cond (own q) 1 0) 1 = ap (λ (x : Name × Kept). cond (own x) 1 0) (same_Some q p there) ∙ ap (λ b. cond b 1 0) is in
          let second = counted_under qs k later in
          absurd (omega (arith, all, few, first, second))
      by false t later (suc j) there more = more j there (omega (arith, all, few)) later

-- where none is a client's that expired, all that it has is live
all_live : (now : ℕ) (client : List ℕ) (ps : List (Name × Kept)) → count_by (is_stale now client) ps ≡ 0
    → count_by (λ p. nat_le now p.1.until && bytes_eq (key_in p.0).client_id client) ps ≡ count_by (λ p. bytes_eq (key_in p.0).client_id client) ps
all_live now client [] h = refl
all_live now client (p ∷ ps) h =
    let parts = none_parts (is_stale now client) p ps h in
    let a = sum_by-cons (λ (q : Name × Kept). cond (nat_le now q.1.until && bytes_eq (key_in q.0).client_id client) 1 0) p ps in
    let z = sum_by-cons (λ (q : Name × Kept). cond (bytes_eq (key_in q.0).client_id client) 1 0) p ps in
    let here = by (nat_lt p.1.until now) (nat_le now p.1.until) refl refl (bytes_eq (key_in p.0).client_id client) parts.0 in
    omega (arith, a, z, here, all_live now client ps parts.1)
  where
    by : (x y : Bool) → nat_lt p.1.until now ≡ x → nat_le now p.1.until ≡ y → (b : Bool) → (x && b) ≡ false → ◌≡◌ {A = ℕ} (cond (y && b) 1 0) (cond b 1 0)
    by true y e f true h = absurd (true≢false h)
    by true true e f false h = refl
    by true false e f false h = refl
    by false true e f b h = refl
    by false false e f b h = absurd (omega (arith, ltb-false _ _ e, leb-false _ _ f))

-- the shelf has the expirations of entries
module _ (m : Shelf) (es : List Entry) (listed : (f : ℕ × RequestKey → ℕ) → sum_by (λ p. f (due_at p)) m.outcomes.entries ≡ sum_by (λ e. f (due_of e)) es) where
  pub held_live : (now : ℕ) (client : List ℕ) → count_by (is_stale now client) m.outcomes.entries ≡ 0 → held_of client (keys_of (unexpired now (entries_at es))) ≡ held_of client (keys_at es)
  held_live now client none =
      sym (held_many m.outcomes.entries es listed now client) ∙ all_live now client m.outcomes.entries none
      ∙ listed (λ d. cond (bytes_eq d.1.client_id client) 1 0) ∙ held_sum client es

  module _ (distinct : are_distinct (keys_at es) ≡ true) (now : ℕ) (client : List ℕ) (spot : Spot) (stale : IsStale spot now client m.outcomes.entries) where
    abbrev key : RequestKey
    key = key_of spot.key.key

    -- the entry that expired is one of them
    pub left_stale : IsLeft stale.kept.until key es
    left_stale =
        let u : ℕ = stale.kept.until in
        let same : same_key key (key_in stale.name) ≡ true = ap (same_key key) (sym stale.key) ∙ itself key in
        let here = counted_at (λ (p : Name × Kept). p.1.until == u && same_key key (key_in p.0)) m.outcomes.entries spot.place (stale.name, stale.kept) stale.there
        (and_from (u == u) (same_key key (key_in stale.name)) (eq-eqb u u refl) same) in
        left_from u key es (split u key es (omega (arith, here, listed (one u key)))) distinct

    few : count_by (λ p. same_key (key_in p.0) key) m.outcomes.entries ≤ 1
    few =
        omega (arith, listed (λ d. cond (same_key d.1 key) 1 0), left_stale.sums (λ (e : Entry). cond (same_key (key_of e.key) key) 1 0), none_left key es, at_most_one (same_key (key_of left_stale.entry.key) key))

    -- its slot is under its key
    pub slot_stale : AreOutcomes m es → slot_at m key ≡ Some spot.slot
    slot_stale found = by (at_key m key) refl
      where
        by : (o : Option Kept) → at_key m key ≡ o → option_map (λ k. k.slot) o ≡ Some spot.slot
        by None e = absurd (true≢false (sym left_stale.found ∙ ap is_some (sym (found key) ∙ ap (option_map (λ (k : Kept). k.outcome)) e)))
        by (Some k) e =
            let same : same_key (key_in stale.name) key ≡ true = ap (λ x. same_key x key) (sym stale.key) ∙ itself key in
            let is = found_there key m.outcomes.entries spot.place (stale.name, stale.kept) k stale.there same few e in
            ap Some (ap (λ (x : Kept). x.slot) is ∙ sym stale.slot)
