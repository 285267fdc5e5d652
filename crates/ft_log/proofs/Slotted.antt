-- Outcomes and their slots in the order of expirations, once an outcome was put or taken away.
use Rattle.std.proofs.Common.{◌≡◌, ℕ, ◌+◌, ◌<◌, ◌≤◌, ◌==◌, ◌&&◌, Bool, true, false, not, nat_eq, cond, List, [], ◌∷◌, Option, Some, None, option_map, refl, sym, ap, ◌∙◌, true≢false, arith}
use Rattle.std.specs.List.{count_by, list_any, sum_by}
use Rattle.std.specs.Option.{option_eq}
use Rattle.std.proofs.lemmas.Bool.{and_parts, and_from, or_parts, eq-eqb, eqb-true, ltb-true, lt-ltb}
use Rattle.std.proofs.lemmas.List.Sums.{sum_by-cons}
use Rattle.std.proofs.lemmas.Option.{none-some, same_Some}
use Rattle.indexmap.specs.IndexMap.{spare}
use Rattle.ft_log.specs.Dues.{dues}
use Rattle.ft_log.specs.Keys.{RequestKey, same_key}
use Rattle.ft_log.specs.Maps.{Counts, is_countable}
use Rattle.ft_log.specs.Shelf.{at_key, has_room, slot_at}
use Rattle.ft_log.specs.Tied.{AreDues, is_free, is_slotted, outcome_for}
use Rattle.ft_log.specs.View.{key_of}
use Rattle.ft_log.specs.Without.{without}
use Rattle.ft_log.specs.declared.story.Entry.{Entry}
use Rattle.ft_log.specs.declared.due.Due.{Due}
use Rattle.ft_log.specs.declared.order.Order.{Order}
use Rattle.ft_log.specs.declared.held.Held.{Held}
use Rattle.ft_log.specs.declared.shelf.Kept.{Kept}
use Rattle.ft_log.specs.declared.shelf.Shelf.{Shelf}
use Rattle.ft_log.proofs.Entries.{keys_at, same_comm}
use Rattle.ft_log.proofs.Listed.{itself, same_is}
use Rattle.ft_log.proofs.Queued.{none_parts, not_not}

none_from : {X : Type 0} (p : X → Bool) (x : X) (xs : List X) → p x ≡ false → count_by p xs ≡ 0 → count_by p (x ∷ xs) ≡ 0
none_from p x xs e h =
    let all = sum_by-cons (λ z. cond (p z) 1 0) x xs in
    let none : ◌≡◌ {A = ℕ} (cond (p x) 1 0) 0 = ap (λ b. cond b 1 0) e in
    omega (arith, h, all, none)

-- what stands under one key changed, and none of the slots is of that key
pub slotted-change : (m n : Shelf) (key : RequestKey) (ds : List Due) → ((other : RequestKey) → same_key other key ≡ false → at_key n other ≡ at_key m other)
    → count_by (λ d. not (is_slotted m d)) ds ≡ 0 → count_by (λ d. same_key (key_of d.key.key) key) ds ≡ 0 → count_by (λ d. not (is_slotted n d)) ds ≡ 0
slotted-change m n key [] others all none = refl
slotted-change m n key (d ∷ ds) others all none =
    let a = none_parts (λ z. not (is_slotted m z)) d ds all in
    let z = none_parts (λ z. same_key (key_of z.key.key) key) d ds none in
    let same : is_slotted n d ≡ is_slotted m d = ap (λ o. option_eq nat_eq (option_map (λ k. k.slot) o) (Some d.slot)) (others (key_of d.key.key) z.0) in
    none_from (λ z. not (is_slotted n z)) d ds (ap not same ∙ a.0) (slotted-change m n key ds others a.1 z.1)

-- the slot that is known
pub slot_is : (m : Shelf) (d : Due) → not (is_slotted m d) ≡ false → slot_at m (key_of d.key.key) ≡ Some d.slot
slot_is m d h = by (slot_at m (key_of d.key.key)) (not_not (is_slotted m d) h)
  where
    by : (o : Option ℕ) → option_eq nat_eq o (Some d.slot) ≡ true → o ≡ Some d.slot
    by None e = absurd (true≢false (sym e))
    by (Some s) e = ap Some (eqb-true s d.slot e)

-- the slot that was given
pub slot_here : (m : Shelf) (old : Option Kept) (d : Due) (key : RequestKey) (kept : Kept) → key_of d.key.key ≡ key → d.slot ≡ kept.slot → at_key m key ≡ cond (same_key key key) (Some kept) old → not (is_slotted m d) ≡ false
slot_here m old d key kept of_key has h =
    let there : at_key m (key_of d.key.key) ≡ Some kept = ap (at_key m) of_key ∙ h ∙ (λ i. cond (itself key i) (Some kept) old) in
    ap (λ o. not (option_eq nat_eq (option_map (λ k. k.slot) o) (Some d.slot))) there ∙ ap not (eq-eqb kept.slot d.slot (sym has))

-- a count of 1 or 0 that is 0
pub is_none : (b : Bool) → ◌≡◌ {A = ℕ} (cond b 1 0) 0 → b ≡ false
is_none true h = absurd (omega (arith, h))
is_none false h = refl

-- no entry has a key that is new ..
pub none_new : (key : RequestKey) (es : List Entry) → list_any (λ other. same_key key other) (keys_at es) ≡ false → count_by (λ e. same_key (key_of e.key) key) es ≡ 0
none_new key [] h = refl
none_new key (e ∷ es) h =
    let parts = or_parts (same_key key (key_of e.key)) (list_any (λ other. same_key key other) (keys_at es)) h in
    none_from (λ (z : Entry). same_key (key_of z.key) key) e es (same_comm (key_of e.key) key ∙ parts.0) (none_new key es parts.1)

-- .. or whose entry is gone
pub none_left : (key : RequestKey) (es : List Entry) → count_by (λ e. same_key (key_of e.key) key) (without key es) ≡ 0
none_left key [] = refl
none_left key (e ∷ es) = by (same_key key (key_of e.key)) refl (none_left key es)
  where
    by : (b : Bool) → same_key key (key_of e.key) ≡ b → count_by (λ z. same_key (key_of z.key) key) (without key es) ≡ 0 → count_by (λ z. same_key (key_of z.key) key) (cond (not b) (e ∷ without key es) (without key es)) ≡ 0
    by true t h = h
    by false t h = none_from (λ (z : Entry). same_key (key_of z.key) key) e (without key es) (same_comm (key_of e.key) key ∙ t) h

-- so none of the slots is of that key
pub none_due : (key : RequestKey) (o : Order) (es : List Entry) → AreDues o es → count_by (λ e. same_key (key_of e.key) key) es ≡ 0 → count_by (λ d. same_key (key_of d.key.key) key) (dues o) ≡ 0
none_due key o es dated h = dated (λ p. cond (same_key p.1 key) 1 0) ∙ h

-- nothing stands under a key that is new
pub outcome_none : (key : RequestKey) (es : List Entry) → list_any (λ other. same_key key other) (keys_at es) ≡ false → outcome_for key es ≡ None
outcome_none key [] h = refl
outcome_none key (e ∷ es) h =
    let parts = or_parts (same_key key (key_of e.key)) (list_any (λ other. same_key key other) (keys_at es)) h in
    (λ i. cond (parts.0 i) (Some e.outcome) (outcome_for key es)) ∙ outcome_none key es parts.1

pub nothing_there : (o : Option Kept) → option_map (λ k. k.outcome) o ≡ None → o ≡ None
nothing_there None h = refl
nothing_there (Some k) h = absurd (none-some k.outcome (sym h))

-- the outcome, where one more stands under a key, and where what stood there is gone
pub outcome_put : (b : Bool) (k : Kept) (o : Option Kept) → option_map (λ x. x.outcome) (cond b (Some k) o) ≡ cond b (Some k.outcome) (option_map (λ x. x.outcome) o)
outcome_put true k o = refl
outcome_put false k o = refl

pub outcome_taken : (b : Bool) (o : Option Kept) → ◌≡◌ {A = Option Held} (option_map (λ x. x.outcome) (cond b None o)) (cond b None (option_map (λ x. x.outcome) o))
outcome_taken true o = refl
outcome_taken false o = refl

-- the keys of the entries
pub keys_sum : (f : RequestKey → ℕ) (es : List Entry) → sum_by (λ e. f (key_of e.key)) es ≡ sum_by f (keys_at es)
keys_sum f [] = refl
keys_sum f (e ∷ es) =
    let a = sum_by-cons (λ (x : Entry). f (key_of x.key)) e es in
    let z = sum_by-cons f (key_of e.key) (keys_at es) in
    omega (arith, a, z, keys_sum f es)

-- what is reserved
pub free_from : (b : Bool) (m : Shelf) (counts : Counts) → has_room m ≡ true → is_countable b counts ≡ true → is_free b m counts ≡ true
free_from b m counts room more = and_from (has_room m) (is_countable b counts) room more

pub free_parts : (b : Bool) (m : Shelf) (counts : Counts) → is_free b m counts ≡ true → (has_room m ≡ true) × (is_countable b counts ≡ true)
free_parts b m counts h = and_parts (has_room m) (is_countable b counts) h

pub countable_stays : (b : Bool) (old new : Counts) → spare old ≤ spare new → is_countable b old ≡ true → is_countable b new ≡ true
countable_stays true old new more h = lt-ltb 0 (spare new) (let some = ltb-true 0 (spare old) h in omega (arith, some, more))
countable_stays false old new more h = refl

-- an entry is there where an outcome is found
pub entry_there : (key : RequestKey) (es : List Entry) (o : Held) → outcome_for key es ≡ Some o → 0 < count_by (λ e. same_key (key_of e.key) key) es
entry_there key [] o h = absurd (none-some o h)
entry_there key (e ∷ es) o h = by (same_key key (key_of e.key)) refl h (entry_there key es o)
  where
    all : count_by (λ (z : Entry). same_key (key_of z.key) key) (e ∷ es) ≡ cond (same_key (key_of e.key) key) 1 0 + count_by (λ (z : Entry). same_key (key_of z.key) key) es
    all = sum_by-cons (λ (z : Entry). cond (same_key (key_of z.key) key) 1 0) e es

    by : (b : Bool) → same_key key (key_of e.key) ≡ b → cond b (Some e.outcome) (outcome_for key es) ≡ Some o → (outcome_for key es ≡ Some o → 0 < count_by (λ (z : Entry). same_key (key_of z.key) key) es)
        → 0 < count_by (λ (z : Entry). same_key (key_of z.key) key) (e ∷ es)
    by true t is more = let one : ◌≡◌ {A = ℕ} (cond (same_key (key_of e.key) key) 1 0) 1 = ap (λ b. cond b 1 0) (same_comm (key_of e.key) key ∙ t) in omega (arith, all, one)
    by false t is more = let later = more is in omega (arith, all, later)

-- each due of a key has the slot that is under it
pub due_there : (m : Shelf) (key : RequestKey) (slot : ℕ) (ds : List Due) → slot_at m key ≡ Some slot → count_by (λ d. not (is_slotted m d)) ds ≡ 0
    → count_by (λ d. same_key (key_of d.key.key) key) ds ≤ count_by (λ d. d.slot == slot && same_key (key_of d.key.key) key) ds
due_there m key slot [] h none = omega arith
due_there m key slot (d ∷ ds) h none =
    let parts = none_parts (λ z. not (is_slotted m z)) d ds none in
    let a = sum_by-cons (λ (z : Due). cond (same_key (key_of z.key.key) key) 1 0) d ds in
    let z = sum_by-cons (λ (z : Due). cond (z.slot == slot && same_key (key_of z.key.key) key) 1 0) d ds in
    let here : cond (same_key (key_of d.key.key) key) 1 0 ≤ cond (d.slot == slot && same_key (key_of d.key.key) key) 1 0 = by (same_key (key_of d.key.key) key) refl parts.0 in
    omega (arith, a, z, here, due_there m key slot ds h parts.1)
  where
    by : (b : Bool) → same_key (key_of d.key.key) key ≡ b → not (is_slotted m d) ≡ false → cond b 1 0 ≤ cond (d.slot == slot && b) 1 0
    by true t is =
        let same : d.slot ≡ slot = same_Some d.slot slot (sym (slot_is m d is) ∙ ap (slot_at m) (same_is (key_of d.key.key) key t) ∙ h) in
        let one : ◌≡◌ {A = ℕ} (cond (d.slot == slot && true) 1 0) 1 = ap (λ b. cond (b && true) 1 0) (eq-eqb d.slot slot same) in
        omega (arith, one)
    by false t is = omega arith

-- what is found where a slot is
pub kept_where : (o : Option Kept) (slot : ℕ) → option_map (λ k. k.slot) o ≡ Some slot → (h : Held) × (option_map (λ k. k.outcome) o ≡ Some h)
kept_where None slot h = absurd (none-some slot h)
kept_where (Some k) slot h = (k.outcome, refl)
