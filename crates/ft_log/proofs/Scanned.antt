-- What is counted among the outcomes of a shelf, and the least expiration there.
use Rattle.std.proofs.Common.{◌≡◌, ℕ, zero, suc, ◌+◌, ◌<◌, ◌≤◌, ◌&&◌, ◌==◌, Bool, true, false, cond, min, nat_le, nat_lt, bytes_eq, List, [], ◌∷◌, length, take, slice_get, Option, Some, None, refl, sym, ap, ◌∙◌, subst, arith}
use Rattle.std.specs.List.{count_by, sum_by}
use Rattle.std.specs.Option.{option_map_or}
use Rattle.std.proofs.lemmas.Bool.{ltb-true, ltb-false, eq-eqb}
use Rattle.std.proofs.lemmas.List.{length-map}
use Rattle.std.proofs.lemmas.List.Sums.{length-filter, sum_by-le-sum_by, sum_by_more}
use Rattle.std.proofs.lemmas.Option.{get_or_from_slice_get, none-some}
use Rattle.ft_log.specs.Keys.{RequestKey, held_of}
use Rattle.ft_log.specs.Kept.{keys_of, least_expiration, unexpired}
use Rattle.ft_log.specs.Maps.{due_at, key_in}
use Rattle.ft_log.specs.Shelf.{IsLeast, lesser}
use Rattle.ft_log.specs.Store.{live}
use Rattle.ft_log.specs.Tied.{due_of}
use Rattle.ft_log.specs.View.{entries_at, entry_in, key_of}
use Rattle.ft_log.specs.declared.name.Name.{Name}
use Rattle.ft_log.specs.declared.shelf.Kept.{Kept}
use Rattle.ft_log.specs.declared.story.Entry.{Entry}
use Rattle.ft_log.proofs.Entries.{held_sum, least_is}
use Rattle.ft_log.proofs.Live.{entries-live}
use Rattle.ft_log.proofs.Queued.{sum-filter, sum-same}

-- a test of both
both : (a b : Bool) → ◌≡◌ {A = ℕ} (cond (a && b) 1 0) (cond a (cond b 1 0) 0)
both true b = refl
both false b = refl

at_most_one : (b : Bool) → cond b 1 0 ≤ 1
at_most_one true = omega arith
at_most_one false = omega arith

-- more of one test than of a narrower one
fewer : (now s t : ℕ) → s ≤ t → (es : List (Name × Kept)) → count_by (λ p. nat_le now p.1.until && nat_lt p.1.until s) es ≤ count_by (λ p. nat_le now p.1.until && nat_lt p.1.until t) es
fewer now s t le es = sum_by-le-sum_by (λ (p : Name × Kept). cond (nat_le now p.1.until && nat_lt p.1.until s) 1 0) (λ (p : Name × Kept). cond (nat_le now p.1.until && nat_lt p.1.until t) 1 0) es (λ p. each p.1.until)
  where
    each : (u : ℕ) → cond (nat_le now u && nat_lt u s) 1 0 ≤ cond (nat_le now u && nat_lt u t) 1 0
    each u = by (nat_le now u) (nat_lt u s) (nat_lt u t) refl refl
      where
        by : (a b d : Bool) → nat_lt u s ≡ b → nat_lt u t ≡ d → cond (a && b) 1 0 ≤ cond (a && d) 1 0
        by false b d e f = omega arith
        by true true true e f = omega arith
        by true true false e f = absurd (omega (arith, le, ltb-true _ _ e, ltb-false _ _ f))
        by true false d e f = omega arith

fewer_live : (now t : ℕ) (es : List (Name × Kept)) → count_by (λ p. nat_le now p.1.until && nat_lt p.1.until t) es ≤ count_by (λ p. nat_le now p.1.until) es
fewer_live now t es = sum_by-le-sum_by (λ (p : Name × Kept). cond (nat_le now p.1.until && nat_lt p.1.until t) 1 0) (λ (p : Name × Kept). cond (nat_le now p.1.until) 1 0) es (λ p. each (nat_le now p.1.until) (nat_lt p.1.until t))
  where
    each : (a b : Bool) → cond (a && b) 1 0 ≤ cond a 1 0
    each true b = at_most_one b
    each false b = omega arith

not_before : (u t : ℕ) → t ≤ u → nat_lt u t ≡ false
not_before u t le = by (nat_lt u t) refl
  where
    by : (b : Bool) → nat_lt u t ≡ b → b ≡ false
    by true e = absurd (omega (arith, le, ltb-true _ _ e))
    by false e = refl

-- the least, once one more was looked at
module _ (now : ℕ) (p : Name × Kept) (xs ys : List (Name × Kept)) (sums : (f : Name × Kept → ℕ) → sum_by f ys ≡ sum_by f xs + f p) where
  abbrev u : ℕ
  u = p.1.until

  -- it is not counted where its test fails
  stays : (test : Name × Kept → Bool) → test p ≡ false → count_by test ys ≡ count_by test xs
  stays test e = let none : ◌≡◌ {A = ℕ} (cond (test p) 1 0) 0 = ap (λ b. cond b 1 0) e in omega (arith, none, sums (λ q. cond (test q) 1 0))

  more : (test : Name × Kept → Bool) → test p ≡ true → count_by test ys ≡ count_by test xs + 1
  more test e = let one : ◌≡◌ {A = ℕ} (cond (test p) 1 0) 1 = ap (λ b. cond b 1 0) e in omega (arith, one, sums (λ q. cond (test q) 1 0))

  at_least : (test : Name × Kept → Bool) → count_by test xs ≤ count_by test ys
  at_least test = omega (arith, sums (λ q. cond (test q) 1 0))

  -- it is live, and the least so far is another, or none
  module _ (is : nat_le now u ≡ true) where
    first : IsLeast now None xs → IsLeast now (Some u) ys
    first h = record {
      none = tt;
      before = stays (λ q. nat_le now q.1.until && nat_lt q.1.until u) (λ i. is i && not_before u u (omega arith) i) ∙ (let some = fewer_live now u xs in let none : count_by (λ q. nat_le now q.1.until) xs ≡ 0 = h.none in omega (arith, some, none));
      there = omega (arith, more (λ q. nat_le now q.1.until && q.1.until == u) (λ i. is i && eq-eqb u u refl i));
    }

    lower : (t : ℕ) → IsLeast now (Some t) xs → u < t → IsLeast now (Some u) ys
    lower t h lt = record {
      none = tt;
      before = stays (λ q. nat_le now q.1.until && nat_lt q.1.until u) (λ i. is i && not_before u u (omega arith) i) ∙ (let some = fewer now u t (omega (arith, lt)) xs in let none : count_by (λ q. nat_le now q.1.until && nat_lt q.1.until t) xs ≡ 0 = h.before in omega (arith, some, none));
      there = omega (arith, more (λ q. nat_le now q.1.until && q.1.until == u) (λ i. is i && eq-eqb u u refl i));
    }

    higher : (t : ℕ) → IsLeast now (Some t) xs → t ≤ u → IsLeast now (Some t) ys
    higher t h le = record {
      none = tt;
      before = stays (λ q. nat_le now q.1.until && nat_lt q.1.until t) (λ i. is i && not_before u t le i) ∙ h.before;
      there = let was : 0 < count_by (λ q. nat_le now q.1.until && q.1.until == t) xs = h.there in let now_is = at_least (λ q. nat_le now q.1.until && q.1.until == t) in omega (arith, was, now_is);
    }

    next : (t : ℕ) → IsLeast now (Some t) xs → IsLeast now (Some (min t u)) ys
    next t h = by (nat_lt u t) refl
      where
        by : (b : Bool) → nat_lt u t ≡ b → IsLeast now (Some (min t u)) ys
        by true e = let lt = ltb-true u t e in let same : u ≡ min t u = omega (arith, lt) in subst (λ (x : ℕ). IsLeast now (Some x) ys) same (lower t h lt)
        by false e = let le = ltb-false u t e in let same : t ≡ min t u = omega (arith, le) in subst (λ (x : ℕ). IsLeast now (Some x) ys) same (higher t h le)

  -- it is not
  passed : nat_le now u ≡ false → (least : Option ℕ) → IsLeast now least xs → IsLeast now least ys
  passed is None h = record { none = stays (λ q. nat_le now q.1.until) is ∙ h.none; before = tt; there = tt }
  passed is (Some t) h = record {
    none = tt;
    before = stays (λ q. nat_le now q.1.until && nat_lt q.1.until t) (λ i. is i && nat_lt u t) ∙ h.before;
    there = let was : 0 < count_by (λ q. nat_le now q.1.until && q.1.until == t) xs = h.there in let now_is = at_least (λ q. nat_le now q.1.until && q.1.until == t) in omega (arith, was, now_is);
  }

  pub least_with : (least : Option ℕ) → IsLeast now least xs → IsLeast now (lesser now u least) ys
  least_with None h = (elim (nat_le now u) as (λ b. nat_le now u ≡ b → IsLeast now (cond b (Some u) None) ys) [ true ↦ λ is. first is h | false ↦ λ is. passed is None h ]) refl
  least_with (Some t) h = (elim (nat_le now u) as (λ b. nat_le now u ≡ b → IsLeast now (cond b (Some (min t u)) (Some t)) ys) [ true ↦ λ is. next is t h | false ↦ λ is. passed is (Some t) h ]) refl

outside : {X : Type 0} (xs : List X) (i : ℕ) → slice_get xs i ≡ None → length xs ≤ i
outside [] i h = omega arith
outside (x ∷ xs) zero h = absurd (none-some x (sym h))
outside (x ∷ xs) (suc i) h = let later = outside xs i h in omega (arith, later)

pub least_more : (now : ℕ) (least : Option ℕ) (es : List (Name × Kept)) (i : ℕ) → i < length es → IsLeast now least (take i es)
    → IsLeast now (option_map_or (λ p. lesser now p.1.until least) (slice_get es i) least) (take (i + 1) es)
least_more now least es i within h = by (slice_get es i) refl
  where
    by : (o : Option (Name × Kept)) → slice_get es i ≡ o → IsLeast now (option_map_or (λ p. lesser now p.1.until least) o least) (take (i + 1) es)
    by None e = absurd (let far = outside es i e in omega (arith, within, far))
    by (Some p) e = least_with now p (take i es) (take (i + 1) es) (λ f. sum_by_more f es i p within ∙ ap (λ q. sum_by f (take i es) + f q) (get_or_from_slice_get es i p p e)) least h

-- the shelf has the expirations of entries
module _ (ps : List (Name × Kept)) (es : List Entry) (listed : (f : ℕ × RequestKey → ℕ) → sum_by (λ p. f (due_at p)) ps ≡ sum_by (λ e. f (due_of e)) es) where
  pub live_many : (now : ℕ) → count_by (λ p. nat_le now p.1.until) ps ≡ length (unexpired now (entries_at es))
  live_many now =
      listed (λ d. cond (nat_le now d.0) 1 0) ∙ sym (length-filter (λ (e : Entry). nat_le now e.expiration) es) ∙ sym (length-map (live now es) entry_in) ∙ ap length (entries-live now es)

  pub held_many : (now : ℕ) (client : List ℕ) → count_by (λ p. nat_le now p.1.until && bytes_eq (key_in p.0).client_id client) ps ≡ held_of client (keys_of (unexpired now (entries_at es)))
  held_many now client =
      listed (λ d. cond (nat_le now d.0 && bytes_eq d.1.client_id client) 1 0)
      ∙ sum-same (λ (e : Entry). cond (nat_le now e.expiration && bytes_eq (key_of e.key).client_id client) 1 0) (λ (e : Entry). cond (nat_le now e.expiration) (cond (bytes_eq (key_of e.key).client_id client) 1 0) 0) (λ e. both (nat_le now e.expiration) (bytes_eq (key_of e.key).client_id client)) es
      ∙ sym (sum-filter (λ (e : Entry). nat_le now e.expiration) (λ (e : Entry). cond (bytes_eq (key_of e.key).client_id client) 1 0) es)
      ∙ held_sum client (live now es) ∙ ap (λ l. held_of client (keys_of l)) (entries-live now es)

  -- sums over what is live
  live_sum : (now : ℕ) (test : ℕ → Bool) → sum_by (λ (e : Entry). cond (test e.expiration) 1 0) (live now es) ≡ count_by (λ p. nat_le now p.1.until && test p.1.until) ps
  live_sum now test =
      sum-filter (λ (e : Entry). nat_le now e.expiration) (λ (e : Entry). cond (test e.expiration) 1 0) es
      ∙ sum-same (λ (e : Entry). cond (nat_le now e.expiration) (cond (test e.expiration) 1 0) 0) (λ (e : Entry). cond (nat_le now e.expiration && test e.expiration) 1 0) (λ e. sym (both (nat_le now e.expiration) (test e.expiration))) es
      ∙ sym (listed (λ d. cond (nat_le now d.0 && test d.0) 1 0))

  none_at : {X : Type 0} (xs : List X) → length xs ≡ 0 → xs ≡ []
  none_at [] h = refl
  none_at (x ∷ xs) h = absurd (omega (arith, h))

  pub least_live : (now : ℕ) (least : Option ℕ) → IsLeast now least ps → least ≡ least_expiration (unexpired now (entries_at es))
  least_live now None h = sym (ap least_expiration (none_at (unexpired now (entries_at es)) (sym (live_many now) ∙ h.none)))
  least_live now (Some t) h =
      let none = live_sum now (λ x. nat_lt x t) ∙ h.before in
      let some = live_sum now (λ x. x == t) in
      let there : 0 < count_by (λ p. nat_le now p.1.until && p.1.until == t) ps = h.there in
      sym (least_is t (live now es) none (omega (arith, some, there))) ∙ ap least_expiration (entries-live now es)
