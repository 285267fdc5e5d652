-- Slots and places, once an outcome was put or taken away.
use Rattle.std.proofs.Common.{◌≡◌, ◌⊎◌, inl, inr, ℕ, zero, suc, ◌+◌, ◌-◌, ◌<◌, ◌≤◌, Bool, true, false, cond, List, [], ◌∷◌, ◌++◌, length, take, Option, Some, None, is_some, option_map, ◌==◌, slice_get, slice_index_or, slice_set, refl, sym, ap, ◌∙◌, true≢false, arith}
use Rattle.std.specs.List.{count_by, swap_remove}
use Rattle.std.specs.Option.{option_map_or}
use Rattle.std.proofs.lemmas.List.Sums.{sum_by_more}
use Rattle.std.specs.Map.{lookup}
use Rattle.std.proofs.lemmas.Bool.{eqb-true, eq-eqb}
use Rattle.std.proofs.lemmas.List.{get_or-take, get_or-set_same, get_or-set_other, length-take, length-set}
use Rattle.std.proofs.lemmas.Option.{none-some, same_Some, slice_get_within, get_or_from_slice_get, slice_get_read, slice_get-get_or}
use Rattle.ft_log.specs.Keys.{RequestKey}
use Rattle.ft_log.specs.Names.{is_named, named_so}
use Rattle.ft_log.specs.Placed.{ArePlaced}
use Rattle.ft_log.specs.Places.{IsChanged, IsMoved}
use Rattle.ft_log.specs.declared.name.Name.{Name}
use Rattle.ft_log.specs.declared.shelf.Kept.{Kept}

past : {X : Type 0} (xs : List X) (i : ℕ) → slice_get xs i ≡ None → length xs ≤ i
past [] i h = omega arith
past (x ∷ xs) zero h = absurd (none-some x (sym h))
past (x ∷ xs) (suc i) h = let later = past xs i h in omega (arith, later)

-- how many of the places up to one pass, once that one was looked at
pub count_more : {X : Type 0} (p : X → Bool) (xs : List X) (i : ℕ) → i < length xs → count_by p (take (i + 1) xs) ≡ count_by p (take i xs) + cond (option_map_or p (slice_get xs i) false) 1 0
count_more {X} p xs i within = by (slice_get xs i) refl
  where
    by : (o : Option X) → slice_get xs i ≡ o → count_by p (take (i + 1) xs) ≡ count_by p (take i xs) + cond (option_map_or p o false) 1 0
    by None e = absurd (outside e)
      where
        outside : slice_get xs i ≡ None → ⊥
        outside none = omega (arith, within, past xs i none)
    by (Some x) e = sum_by_more (λ z. cond (p z) 1 0) xs i x within ∙ ap (λ z. count_by p (take i xs) + cond (p z) 1 0) (get_or_from_slice_get xs i x x e)

-- where a value that is found stands
pub record IsAt (test : Name → Bool) (es : List (Name × Kept)) (v : Kept) : Type 0 where
  pub place : ℕ
  pub name : Name
  pub at : slice_get es place ≡ Some (name, v)
  pub passes : test name ≡ true

pub place_of : (test : Name → Bool) (es : List (Name × Kept)) (v : Kept) → lookup test es ≡ Some v → IsAt test es v
place_of test [] v h = absurd (none-some v h)
place_of test (e ∷ es) v h = by (test e.0) refl h (place_of test es v)
  where
    by : (b : Bool) → test e.0 ≡ b → cond b (Some e.1) (lookup test es) ≡ Some v → (lookup test es ≡ Some v → IsAt test es v) → IsAt test (e ∷ es) v
    by true t is more = record { place = zero; name = e.0; at = ap (λ x. Some (e.0, x)) (same_Some e.1 v is); passes = t }
    by false t is more = let later = more is in record { place = suc later.place; name = later.name; at = later.at; passes = later.passes }

-- where a key's outcome stands, of which a slot is known
pub record IsSlotted (key : RequestKey) (slot : ℕ) (es : List (Name × Kept)) : Type 0 where
  pub place : ℕ
  pub name : Name
  pub kept : Kept
  pub at : slice_get es place ≡ Some (name, kept)
  pub of_client : name.client_id.items ≡ key.client_id
  pub of_number : name.number ≡ Some key.retention_id
  pub has : kept.slot ≡ slot
  pub passes : is_named key.client_id (Some key.retention_id) name ≡ true

pub slotted : (key : RequestKey) (slot : ℕ) (es : List (Name × Kept)) → option_map (λ k. k.slot) (lookup (is_named key.client_id (Some key.retention_id)) es) ≡ Some slot → IsSlotted key slot es
slotted key slot es h = by (lookup (is_named key.client_id (Some key.retention_id)) es) refl h
  where
    by : (o : Option Kept) → lookup (is_named key.client_id (Some key.retention_id)) es ≡ o → option_map (λ k. k.slot) o ≡ Some slot → IsSlotted key slot es
    by None e is = absurd (none-some slot is)
    by (Some v) e is =
        let there = place_of (is_named key.client_id (Some key.retention_id)) es v e in
        let same = named_so key.client_id (Some key.retention_id) there.name there.passes in
        record { place = there.place; name = there.name; kept = v; at = there.at; of_client = sym same.client; of_number = sym same.number; has = same_Some v.slot slot is; passes = there.passes }

-- it stands in the place under its slot
pub at_place : (key : RequestKey) (slot place : ℕ) (es : List (Name × Kept)) (under : ℕ → Option ℕ) → ArePlaced es under → option_map (λ k. k.slot) (lookup (is_named key.client_id (Some key.retention_id)) es) ≡ Some slot
    → under slot ≡ Some place → option_map_or (λ p. is_named key.client_id (Some key.retention_id) p.0) (slice_get es place) false ≡ true
at_place key slot place es under placed h is =
    let w = slotted key slot es h in
    let same : w.place ≡ place = same_Some w.place place (sym (placed w.place (w.name, w.kept) w.at) ∙ ap under w.has ∙ is) in
    ap (λ (n : ℕ). option_map_or (λ (p : Name × Kept). is_named key.client_id (Some key.retention_id) p.0) (slice_get es n) false) (sym same)
    ∙ ap (λ (o : Option (Name × Kept)). option_map_or (λ (p : Name × Kept). is_named key.client_id (Some key.retention_id) p.0) o false) w.at ∙ w.passes

-- under the slot of what stands in a place is that place
pub placed_under : (es : List (Name × Kept)) (under : ℕ → Option ℕ) (place slot : ℕ) → ArePlaced es under → option_map (λ p. p.1.slot) (slice_get es place) ≡ Some slot → under slot ≡ Some place
placed_under es under place slot placed h = by (slice_get es place) refl h
  where
    by : (o : Option (Name × Kept)) → slice_get es place ≡ o → option_map (λ p. p.1.slot) o ≡ Some slot → under slot ≡ Some place
    by None e is = absurd (none-some slot is)
    by (Some p) e is = ap under (sym (same_Some p.1.slot slot is)) ∙ placed place p e

-- what stands in a place, where it is of a key
pub record IsStanding (key : RequestKey) (place : ℕ) (es : List (Name × Kept)) : Type 0 where
  pub name : Name
  pub kept : Kept
  pub at : slice_get es place ≡ Some (name, kept)
  pub of_client : name.client_id.items ≡ key.client_id
  pub of_number : name.number ≡ Some key.retention_id

pub standing : (key : RequestKey) (place : ℕ) (es : List (Name × Kept)) → option_map_or (λ p. is_named key.client_id (Some key.retention_id) p.0) (slice_get es place) false ≡ true → IsStanding key place es
standing key place es h = by (slice_get es place) refl h
  where
    by : (o : Option (Name × Kept)) → slice_get es place ≡ o → option_map_or (λ p. is_named key.client_id (Some key.retention_id) p.0) o false ≡ true → IsStanding key place es
    by None e t = absurd (true≢false (sym t))
    by (Some p) e t =
        let same = named_so key.client_id (Some key.retention_id) p.0 t in
        record { name = p.0; kept = p.1; at = e; of_client = sym same.client; of_number = sym same.number }

-- what stands at a place, once one more was put last
pub pushed_at : {X : Type 0} (es : List X) (p : X) (x : ℕ) (q : X) → slice_get (es ++ p ∷ []) x ≡ Some q → (slice_get es x ≡ Some q) ⊎ ((x ≡ length es) × (p ≡ q))
pushed_at [] p zero q h = inr (refl, same_Some p q h)
pushed_at [] p (suc x) q h = absurd (none-some q h)
pushed_at (e ∷ es) p zero q h = inl h
pushed_at (e ∷ es) p (suc x) q h = elim (pushed_at es p x q h) [ inl a ↦ inl a | inr a ↦ inr (ap suc a.0, a.1) ]

-- what stands at a place, once the last was moved to the place of what was taken
pub record IsLeftAt {X : Type 0} (es : List X) (i x : ℕ) (q : X) : Type 0 where
  pub before : x + 1 < length es
  pub here : x ≡ i → slice_get es (length es - 1) ≡ Some q
  pub there : (x ≡ i → ⊥) → slice_get es x ≡ Some q

pub left_at : {X : Type 0} (es : List X) (i : ℕ) (d : X) (x : ℕ) (q : X) → i < length es → slice_get (swap_remove es i d) x ≡ Some q → IsLeftAt es i x q
left_at {X} es i d x q within at =
    let n : ℕ = length es in
    let last : X = slice_index_or es (n - 1) d in
    let moved : List X = slice_set es i last in
    let short : x < n - 1 = omega (arith, slice_get_within (swap_remove es i d) x q at, length-take (n - 1) moved, length-set es i last) in
    let is = sym (get_or-take (n - 1) moved x q short) ∙ get_or_from_slice_get (swap_remove es i d) x q q at in
    record {
      before = omega (arith, short);
      here = λ e. slice_get-get_or es (n - 1) d (omega (arith, within)) ∙ ap Some (sym (get_or-set_same es i last q within) ∙ ap (λ k. slice_index_or moved k q) (sym e) ∙ is);
      there = λ differ. slice_get_read es n x q refl (omega (arith, short)) (sym is ∙ get_or-set_other es i x last q differ);
    }

-- one more outcome, under a slot of its own
pub placed-push : (es : List (Name × Kept)) (p : Name × Kept) (old new : ℕ → Option ℕ) → ArePlaced es old → old p.1.slot ≡ None → IsChanged old new p.1.slot (Some (length es)) → ArePlaced (es ++ p ∷ []) new
placed-push es p old new placed none up x q at = elim (pushed_at es p x q at) [
  | inl a ↦ up.others q.1.slot (λ e. none-some x (sym none ∙ ap old (sym e) ∙ placed x q a)) ∙ placed x q a
  | inr a ↦ ap (λ (r : Name × Kept). new r.1.slot) (sym a.1) ∙ up.changed ∙ ap Some (sym a.0)
]

-- what was moved has a slot that is another's than that of what was taken
pub moved_has : (es es' : List (Name × Kept)) (place slot : ℕ) (d : Name × Kept) (old left : ℕ → Option ℕ) → ArePlaced es old → old slot ≡ Some place → place < length es
    → es' ≡ swap_remove es place d → IsChanged old left slot None → (other : ℕ) → option_map (λ p. p.1.slot) (slice_get es' place) ≡ Some other → is_some (left other) ≡ true
moved_has es es' place slot d old left placed under within is gone other h = by (slice_get es' place) refl h
  where
    by : (o : Option (Name × Kept)) → slice_get es' place ≡ o → option_map (λ p. p.1.slot) o ≡ Some other → is_some (left other) ≡ true
    by None e some = absurd (none-some other some)
    by (Some m) e some =
        let was = left_at es place d place m within (ap (λ l. slice_get l place) (sym is) ∙ e) in
        let last = ap old (sym (same_Some m.1.slot other some)) ∙ placed (length es - 1) m (was.here refl) in
        ap is_some (gone.others other (λ same. absurd (omega (arith, was.before, same_Some (length es - 1) place (sym last ∙ ap old same ∙ under)))) ∙ last)

-- one fewer: under its slot stands nothing, and under that of what was moved its new place
pub placed-take : (es es' : List (Name × Kept)) (place slot : ℕ) (d : Name × Kept) (old left new : ℕ → Option ℕ) → ArePlaced es old → old slot ≡ Some place → place < length es
    → es' ≡ swap_remove es place d → IsChanged old left slot None → IsMoved (option_map (λ p. p.1.slot) (slice_get es' place)) place left new → ArePlaced es' new
placed-take es es' place slot d old left new placed under within is gone moved x q at = by (slice_get es' place) refl moved
  where
    was : IsLeftAt es place x q
    was = left_at es place d x q within (ap (λ l. slice_get l x) (sym is) ∙ at)

    -- what stays where it was, is under its slot as before
    stays : (x ≡ place → ⊥) → left q.1.slot ≡ Some x
    stays differ = let there = placed x q (was.there differ) in gone.others q.1.slot (λ e. differ (same_Some x place (sym there ∙ ap old e ∙ under))) ∙ there

    by : (o : Option (Name × Kept)) → slice_get es' place ≡ o → IsMoved (option_map (λ p. p.1.slot) o) place left new → new q.1.slot ≡ Some x
    by None e same = same q.1.slot ∙ stays (λ here. none-some q (sym e ∙ ap (slice_get es') (sym here) ∙ at))
    by (Some m) e up = elim (x == place) as (λ b. (x == place) ≡ b → new q.1.slot ≡ Some x) [
      | true ↦ λ t. let here = eqb-true x place t in
          let mine : m ≡ q = same_Some m q (sym e ∙ ap (slice_get es') (sym here) ∙ at) in
          ap (λ (r : Name × Kept). new r.1.slot) (sym mine) ∙ up.changed ∙ ap Some (sym here)
      | false ↦ λ t. let differ : x ≡ place → ⊥ = λ here. true≢false (sym (eq-eqb x place here) ∙ t) in
          let last = placed (length es - 1) m ((left_at es place d place m within (ap (λ l. slice_get l place) (sym is) ∙ e)).here refl) in
          up.others q.1.slot (λ same. absurd (omega (arith, was.before, same_Some x (length es - 1) (sym (placed x q (was.there differ)) ∙ ap old same ∙ last)))) ∙ stays differ
    ] refl
