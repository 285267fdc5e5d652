-- The log once the outcome of a parked call is there.
use Rattle.std.proofs.Common.{◌≡◌, ℕ, zero, suc, ◌+◌, Bool, true, false, cond, ◌&&◌, List, [], ◌∷◌, length, map, slice_get, Option, Some, None, option_map, refl, sym, ap, ◌∙◌, true≢false}
use Rattle.std.specs.List.{sum_by}
use Rattle.std.specs.Map.{lookup, set_value}
use Rattle.std.proofs.lemmas.List.Sums.{sum_by-cons}
use Rattle.std.proofs.lemmas.Option.{none-some, same_Some}
use Rattle.ft_log.specs.Filled.{filled_by, put_at, put_if}
use Rattle.ft_log.specs.Keys.{RequestKey, same_key}
use Rattle.ft_log.specs.Kept.{KeptOutcome, filled, is_parked}
use Rattle.ft_log.specs.Maps.{IsRefilled, due_at, key_in, slot_of}
use Rattle.ft_log.specs.Holding.{Holding, known}
use Rattle.ft_log.specs.Placed.{ArePlaced}
use Rattle.ft_log.specs.Tied.{due_of, outcome_for}
use Rattle.ft_log.specs.View.{entries_at, entry_in, holding_in, key_of, performed_in}
use Rattle.ft_log.specs.declared.held.Held.{Held}
use Rattle.ft_log.specs.declared.held.Held.TheVariants.{Known}
use Rattle.ft_log.specs.declared.key.Key.{Key}
use Rattle.ft_log.specs.declared.name.Name.{Name}
use Rattle.ft_log.specs.declared.outcome.Outcome.{Outcome}
use Rattle.ft_log.specs.declared.shelf.Kept.{Kept}
use Rattle.ft_log.specs.declared.story.Entry.{Entry}
use Rattle.ft_log.proofs.Entries.{keys_at}
use Rattle.ft_log.proofs.Listed.{itself, same_is}

-- another value of the same slot under one name
pub refilled-set : (test : Name → Bool) (es : List (Name × Kept)) (k w : Kept) → lookup test es ≡ Some k → w.slot ≡ k.slot → w.until ≡ k.until → IsRefilled es (set_value test es w)
refilled-set test [] k w h same till = refl
refilled-set test (e ∷ es) k w h same till = by (test e.0) h (refilled-set test es k w)
  where
    by : (b : Bool) → cond b (Some e.1) (lookup test es) ≡ Some k → (lookup test es ≡ Some k → w.slot ≡ k.slot → w.until ≡ k.until → IsRefilled es (set_value test es w)) → map slot_of (cond b ((e.0, w) ∷ es) (e ∷ set_value test es w)) ≡ map slot_of (e ∷ es)
    by true is more =
        let own : e.1 ≡ k = same_Some e.1 k is in
        let slot : w.slot ≡ e.1.slot = same ∙ ap (λ (x : Kept). x.slot) (sym own) in
        let until : w.until ≡ e.1.until = till ∙ ap (λ (x : Kept). x.until) (sym own) in
        λ i. (e.0, slot i, until i) ∷ map slot_of es
    by false is more = ap (λ (l : List (Name × ℕ × ℕ)). slot_of e ∷ l) (more is same till)

-- what stands at a place has the slot that it had
pub refilled-at : (old new : List (Name × Kept)) → IsRefilled old new → (x : ℕ) (p : Name × Kept) → slice_get new x ≡ Some p → (q : Name × Kept) × (slice_get old x ≡ Some q) × (q.1.slot ≡ p.1.slot)
refilled-at [] [] is x p h = absurd (none-some p h)
refilled-at [] (n ∷ new) is x p h = absurd (let no : slot_of n ∷ map slot_of new ≡ [] = is in cc)
refilled-at (o ∷ old) [] is x p h = absurd (none-some p h)
refilled-at (o ∷ old) (n ∷ new) is zero p h =
    let both : slot_of n ∷ map slot_of new ≡ slot_of o ∷ map slot_of old = is in
    let head : slot_of n ≡ slot_of o = cc in
    let at : n ≡ p = same_Some n p h in
    (o, refl, ap (λ (y : Name × ℕ × ℕ). y.1) (sym head) ∙ ap (λ (y : Name × Kept). y.1.slot) at)
refilled-at (o ∷ old) (n ∷ new) is (suc x) p h =
    let both : slot_of n ∷ map slot_of new ≡ slot_of o ∷ map slot_of old = is in
    let tail : map slot_of new ≡ map slot_of old = cc in
    refilled-at old new tail x p h

pub placed-refilled : (old new : List (Name × Kept)) (places : ℕ → Option ℕ) → IsRefilled old new → ArePlaced old places → ArePlaced new places
placed-refilled old new places is h x p at =
    let w = refilled-at old new is x p at in
    ap places (sym w.2) ∙ h x w.0 w.1

-- sums over the names are as they were
pub sums-refilled : (f : ℕ × RequestKey → ℕ) (old new : List (Name × Kept)) → IsRefilled old new → sum_by (λ (p : Name × Kept). f (due_at p)) new ≡ sum_by (λ (p : Name × Kept). f (due_at p)) old
sums-refilled f old new is = sym (over f new) ∙ ap (λ (l : List (Name × ℕ × ℕ)). sum_by (λ (y : Name × ℕ × ℕ). f (y.2, key_in y.0)) l) is ∙ over f old
  where
    over : (f : ℕ × RequestKey → ℕ) (es : List (Name × Kept)) → sum_by (λ (y : Name × ℕ × ℕ). f (y.2, key_in y.0)) (map slot_of es) ≡ sum_by (λ (p : Name × Kept). f (due_at p)) es
    over f [] = refl
    over f (e ∷ es) = sum_by-cons (λ (y : Name × ℕ × ℕ). f (y.2, key_in y.0)) (slot_of e) (map slot_of es) ∙ ap (λ (n : ℕ). f (due_at e) + n) (over f es) ∙ sym (sum_by-cons (λ (p : Name × Kept). f (due_at p)) e es)

-- what stands under each key, where one has another outcome
pub under-filled : (number : ℕ) (outcome : Held) (same : Bool) (was now : Option Kept) (k w : Kept) → (same ≡ true → was ≡ Some k) → now ≡ cond same (Some w) was → put_at number outcome k ≡ w → now ≡ cond same (option_map (put_at number outcome) was) was
under-filled number outcome true was now k w at is put = is ∙ ap (λ (x : Kept). Some x) (sym put) ∙ sym (ap (option_map (put_at number outcome)) (at refl))
under-filled number outcome false was now k w at is put = is

put-yes : (number : ℕ) (outcome : Held) (k : Kept) → is_parked number (holding_in k.outcome) ≡ true → put_at number outcome k ≡ record { slot = k.slot; until = k.until; outcome = outcome }
put-yes number outcome k is = ap (λ (b : Bool). cond b (record { slot = k.slot; until = k.until; outcome = outcome }) k) is

put-no : (number : ℕ) (outcome : Held) (k : Kept) → is_parked number (holding_in k.outcome) ≡ false → put_at number outcome k ≡ k
put-no number outcome k is = ap (λ (b : Bool). cond b (record { slot = k.slot; until = k.until; outcome = outcome }) k) is

pub put-yes-is : (number : ℕ) (outcome : Held) (k : Kept) → is_parked number (holding_in k.outcome) ≡ true → put_at number outcome k ≡ record { slot = k.slot; until = k.until; outcome = outcome }
put-yes-is number outcome k is = put-yes number outcome k is

pub put-no-is : (number : ℕ) (outcome : Held) (k : Kept) → is_parked number (holding_in k.outcome) ≡ false → put_at number outcome k ≡ k
put-no-is number outcome k is = put-no number outcome k is

-- the entries: keys, and what they are in the order, stay
put-key : (key : RequestKey) (number : ℕ) (outcome : Held) (e : Entry) → ((b : Bool) → (put_if b outcome e).key ≡ e.key)
put-key key number outcome e true = refl
put-key key number outcome e false = refl

put-due : (outcome : Held) (e : Entry) (b : Bool) → due_of (put_if b outcome e) ≡ due_of e
put-due outcome e true = refl
put-due outcome e false = refl

pub keys-filled : (by : Entry) (es : List Entry) → keys_at (filled_by by es) ≡ keys_at es
keys-filled by [] = refl
keys-filled by (e ∷ es) =
    let b = same_key (key_of by.key) (key_of e.key) && is_parked by.expiration (holding_in e.outcome) in
    ap (λ k. key_of k ∷ keys_at (filled_by by es)) (put-key (key_of by.key) by.expiration by.outcome e b) ∙ ap (λ (ks : List RequestKey). key_of e.key ∷ ks) (keys-filled by es)

pub length-filled : (by : Entry) (es : List Entry) → length (filled_by by es) ≡ length es
length-filled by [] = refl
length-filled by (e ∷ es) = ap suc (length-filled by es)

pub dues-filled : (f : ℕ × RequestKey → ℕ) (by : Entry) (es : List Entry) → sum_by (λ (e : Entry). f (due_of e)) (filled_by by es) ≡ sum_by (λ (e : Entry). f (due_of e)) es
dues-filled f by [] = refl
dues-filled f by (e ∷ es) =
    let b = same_key (key_of by.key) (key_of e.key) && is_parked by.expiration (holding_in e.outcome) in
    sum_by-cons (λ (x : Entry). f (due_of x)) (put_if b by.outcome e) (filled_by by es)
    ∙ ap (λ d. f d + sum_by (λ (x : Entry). f (due_of x)) (filled_by by es)) (put-due by.outcome e b) ∙ ap (λ (n : ℕ). f (due_of e) + n) (dues-filled f by es) ∙ sym (sum_by-cons (λ (x : Entry). f (due_of x)) e es)

-- what they stand for
pub entries-filled : (key : Key) (number : ℕ) (outcome : Outcome) (es : List Entry)
    → entries_at (filled_by (record { key = key; expiration = number; outcome = Known outcome }) es) ≡ map (filled (key_of key) number (performed_in outcome)) (entries_at es)
entries-filled key number outcome [] = refl
entries-filled key number outcome (e ∷ es) =
    let by : Entry = record { key = key; expiration = number; outcome = Known outcome } in
    ap (λ (x : KeptOutcome Holding). x ∷ entries_at (filled_by by es)) (one (same_key (key_of key) (key_of e.key) && is_parked number (holding_in e.outcome)))
    ∙ ap (λ (l : List (KeptOutcome Holding)). filled (key_of key) number (performed_in outcome) (entry_in e) ∷ l) (entries-filled key number outcome es)
  where
    one : (b : Bool) → entry_in (put_if b (Known outcome) e) ≡ cond b (record { key = key_of e.key; expiration = e.expiration; outcome = known (performed_in outcome) }) (entry_in e)
    one true = refl
    one false = refl

-- either key may stand first
same_key-sym : (a b : RequestKey) → same_key a b ≡ same_key b a
same_key-sym a b = go (same_key a b) (same_key b a) refl refl
  where
    go : (x y : Bool) → same_key a b ≡ x → same_key b a ≡ y → x ≡ y
    go true true h k = refl
    go false false h k = refl
    go true false h k = absurd (true≢false (sym (itself b) ∙ ap (λ (c : RequestKey). same_key b c) (sym (same_is a b h)) ∙ k))
    go false true h k = absurd (true≢false (sym (itself a) ∙ ap (λ (c : RequestKey). same_key a c) (sym (same_is b a k)) ∙ h))

-- the outcome that is found for a key
abbrev pub put_outcome : ℕ → Held → Held → Held
put_outcome number outcome o = cond (is_parked number (holding_in o)) outcome o

own-outcome : (by : Entry) (e : Entry) (b p : Bool) → (put_if (b && p) by.outcome e).outcome ≡ cond b (cond p by.outcome e.outcome) e.outcome
own-outcome by e true true = refl
own-outcome by e true false = refl
own-outcome by e false p = refl

some-by : (b : Bool) (x y : Held) → Some (cond b x y) ≡ cond b (Some x) (Some y)
some-by true x y = refl
some-by false x y = refl

pub outcome-filled : (by : Entry) (key : RequestKey) (es : List Entry) → outcome_for key (filled_by by es) ≡ cond (same_key key (key_of by.key)) (option_map (put_outcome by.expiration by.outcome) (outcome_for key es)) (outcome_for key es)
outcome-filled by key [] = (elim (same_key key (key_of by.key)) as (λ (b : Bool). None ≡ cond b (option_map (put_outcome by.expiration by.outcome) None) None) [ true ↦ refl | false ↦ refl ])
outcome-filled by key (e ∷ es) =
    let b = same_key (key_of by.key) (key_of e.key) in
    let p = is_parked by.expiration (holding_in e.outcome) in
    let later = outcome-filled by key es in
    let x : Entry = put_if (b && p) by.outcome e in
    ap (λ k. cond (same_key key (key_of k)) (Some x.outcome) (outcome_for key (filled_by by es))) (put-key (key_of by.key) by.expiration by.outcome e (b && p))
    ∙ (elim (same_key key (key_of e.key)) as (λ (c : Bool). same_key key (key_of e.key) ≡ c → cond c (Some x.outcome) (outcome_for key (filled_by by es)) ≡ cond (same_key key (key_of by.key)) (option_map (put_outcome by.expiration by.outcome) (cond c (Some e.outcome) (outcome_for key es))) (cond c (Some e.outcome) (outcome_for key es))) [
      | true ↦ λ is.
          let same : b ≡ same_key key (key_of by.key) = same_key-sym (key_of by.key) (key_of e.key) ∙ ap (λ (k : RequestKey). same_key k (key_of by.key)) (sym (same_is key (key_of e.key) is)) in
          ap (λ (o : Held). Some o) (own-outcome by e b p) ∙ some-by b (cond p by.outcome e.outcome) e.outcome
          ∙ ap (λ (c : Bool). cond c (Some (cond p by.outcome e.outcome)) (Some e.outcome)) same
      | false ↦ λ is. later
    ]) refl

-- what stands under a key: its outcome, and its slot
pub map-kept : (number : ℕ) (outcome : Held) (b : Bool) (o : Option Kept) → option_map (λ (k : Kept). k.outcome) (cond b (option_map (put_at number outcome) o) o)
    ≡ cond b (option_map (put_outcome number outcome) (option_map (λ (k : Kept). k.outcome) o)) (option_map (λ (k : Kept). k.outcome) o)
map-kept number outcome true None = refl
map-kept number outcome true (Some k) = ap (λ (x : Held). Some x) (by (is_parked number (holding_in k.outcome)))
  where
    by : (p : Bool) → (cond p (record { slot = k.slot; until = k.until; outcome = outcome }) k).outcome ≡ cond p outcome k.outcome
    by true = refl
    by false = refl
map-kept number outcome false o = refl

pub slot-kept : (number : ℕ) (outcome : Held) (b : Bool) (o : Option Kept) → option_map (λ (k : Kept). k.slot) (cond b (option_map (put_at number outcome) o) o) ≡ option_map (λ (k : Kept). k.slot) o
slot-kept number outcome true None = refl
slot-kept number outcome true (Some k) = ap (λ (n : ℕ). Some n) (by (is_parked number (holding_in k.outcome)))
  where
    by : (p : Bool) → (cond p (record { slot = k.slot; until = k.until; outcome = outcome }) k).slot ≡ k.slot
    by true = refl
    by false = refl
slot-kept number outcome false o = refl
