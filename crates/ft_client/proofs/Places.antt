-- Where a pending call is, and what is left without it.
use Rattle.std.proofs.Common.{◌≡◌, ℕ, zero, suc, ◌+◌, ◌<◌, ◌==◌, pos, Bool, true, false, not, ◌||◌, nat_lt, cond, List, [], ◌∷◌, map, length, slice_get, slice_index_or, Option, Some, None, refl, sym, ap, ◌∙◌, arith}
use Rattle.std.specs.List.{AllByRecursion, list_any, position, position_or_len, remove}
use Rattle.std.specs.Ordering.{int_eq}
use Rattle.std.proofs.lemmas.Bool.Decides.{nat_tests}
use Rattle.std.proofs.lemmas.List.Quantifiers.{position-Some}
use Rattle.giop_core.specs.declared.header.Version.{Version}
use Rattle.ft_client.specs.declared.pending.Pending.{Pending as CodePending}
use Rattle.ft_client.specs.Clients.{Pending, find_pending, is_sent_as, waiting, without}
use Rattle.ft_client.specs.Keeping.{Kept, kept_by, kept_of}
use Rattle.ft_client.specs.Lives.{AreRising}
use Rattle.ft_client.proofs.Leaving.{nobody}

-- the first that passes a test
abbrev pub first_that : (Pending → Bool) → List Pending → Option Pending
first_that t [] = None
first_that t (p ∷ ps) = cond (t p) (Some p) (first_that t ps)

-- the call at a place is the first that passes a test
pub record FoundAt (t : Pending → Bool) (ps : List Pending) (i : ℕ) : Type 0 where
  pub call : Pending
  pub at : slice_get ps i ≡ Some call
  pub holds : t call ≡ true
  pub first : first_that t ps ≡ Some call
  pub left : remove ps i ≡ without call.id ps
  pub above : (b : ℕ) → AllByRecursion (λ q. b < q.id) ps → b < call.id

same_id : (n : ℕ) → (n == n) ≡ true
same_id n = grind (arith, nat_tests)

other_id : (m n : ℕ) → m < n → (m == n) ≡ false
other_id m n lt = grind (arith, nat_tests)

pub found_at : (t : Pending → Bool) (last : ℕ) (ps : List Pending) (i : ℕ) (d : Pending) → i < length ps → t (slice_index_or ps i d) ≡ true → ((j : ℕ) → j < i → t (slice_index_or ps j d) ≡ false) → AreRising last ps → FoundAt t ps i
found_at t last [] i d lt here none rising = absurd (omega arith)
found_at t last (p ∷ ps) zero d lt here none rising = record {
  call = p;
  at = refl;
  holds = here;
  first = ap (λ b. cond b (Some p) (first_that t ps)) here;
  left = sym (ap (λ b. cond b ps (p ∷ without p.id ps)) (same_id p.id));
  above = λ b h. h.0;
}
found_at t last (p ∷ ps) (suc i) d lt here none rising =
    let rest = found_at t last ps i d (omega arith) here (λ j less. none (suc j) (omega (arith, less))) rising.2 in
    let not_here = none 0 (omega arith) in
    let higher = rest.above p.id rising.1 in
    record {
      call = rest.call;
      at = rest.at;
      holds = rest.holds;
      first = ap (λ b. cond b (Some p) (first_that t ps)) not_here ∙ rest.first;
      left = ap (λ (qs : List Pending). p ∷ qs) rest.left ∙ sym (ap (λ b. cond b ps (p ∷ without rest.call.id ps)) (other_id p.id rest.call.id higher));
      above = λ b h. rest.above b h.1;
    }

-- what the two searches find
pub waiting_is : (r : ℕ) (ps : List Pending) (p : Pending) → first_that (λ q. is_sent_as r q.sent) ps ≡ Some p → waiting r ps ≡ Some p.id
waiting_is r [] p is = cc
waiting_is r (q ∷ ps) p is =
    elim (is_sent_as r q.sent) as (λ b. cond b (Some q) (first_that (λ q. is_sent_as r q.sent) ps) ≡ Some p → cond b (Some q.id) (waiting r ps) ≡ Some p.id)
    [ true ↦ λ e. ap (λ (o : Option Pending). id_of o) e | false ↦ λ e. waiting_is r ps p e ] is
  where
    id_of : Option Pending → Option ℕ
    id_of None = None
    id_of (Some x) = Some x.id

pub find_is : (id : _) (ps : List Pending) → find_pending id ps ≡ first_that (λ q. int_eq (pos q.id) id) ps
find_is id [] = refl
find_is id (p ∷ ps) = ap (λ o. cond (int_eq (pos p.id) id) (Some p) o) (find_is id ps)

-- places of kept calls

module _ (version : Version) (client_id : List ℕ) where
  abbrev of : Pending → Kept
  of p = kept_of version client_id p

  pub at_both : (qs : List CodePending) (ps : List Pending) (i : ℕ) (c : CodePending) (d : Pending) → map kept_by qs ≡ map (kept_of version client_id) ps → i < length qs → kept_by (slice_index_or qs i c) ≡ kept_of version client_id (slice_index_or ps i d)
  at_both [] ps i c d is lt = absurd (omega arith)
  at_both (q ∷ qs) [] i c d is lt = cc
  at_both (q ∷ qs) (p ∷ ps) zero c d is lt = heads (kept_by q) (kept_of version client_id p) (map kept_by qs) (map (kept_of version client_id) ps) is
    where
      heads : (x y : Kept) (xs ys : List Kept) → x ∷ xs ≡ y ∷ ys → x ≡ y
      heads x y xs ys e = cc
  at_both (q ∷ qs) (p ∷ ps) (suc i) c d is lt = at_both qs ps i c d (tails (kept_by q) (kept_of version client_id p) (map kept_by qs) (map (kept_of version client_id) ps) is) (omega arith)
    where
      tails : (x y : Kept) (xs ys : List Kept) → x ∷ xs ≡ y ∷ ys → xs ≡ ys
      tails x y xs ys e = cc

pub same_length : {A B : Type 0} (f : A → Kept) (g : B → Kept) (xs : List A) (ys : List B) → map f xs ≡ map g ys → length xs ≡ length ys
same_length f g xs ys e = sym (all f xs) ∙ ap length e ∙ all g ys
  where
    all : {C : Type 0} (h : C → Kept) (zs : List C) → length (map h zs) ≡ length zs
    all h [] = refl
    all h (z ∷ zs) = ap suc (all h zs)

pub map_remove : {A : Type 0} (f : A → Kept) (xs : List A) (i : ℕ) → map f (remove xs i) ≡ remove (map f xs) i
map_remove f [] zero = refl
map_remove f [] (suc i) = refl
map_remove f (x ∷ xs) zero = refl
map_remove f (x ∷ xs) (suc i) = ap (λ ys. f x ∷ ys) (map_remove f xs i)

-- where nothing passes a test

any-step : (b : Bool) (n len : ℕ) (rest : Bool) → rest ≡ nat_lt n len → (b || rest) ≡ nat_lt (cond (not b) (1 + n) 0) (suc len)
any-step true n len rest is = grind (arith, nat_tests)
any-step false n len rest is = grind (arith, nat_tests)

any-position : (t : CodePending → Bool) (ps : List CodePending) → list_any t ps ≡ nat_lt (position_or_len t ps) (length ps)
any-position t [] = refl
any-position t (p ∷ ps) = any-step (t p) (position_or_len t ps) (length ps) (list_any t ps) (any-position t ps)

place-none : (b : Bool) (n : ℕ) → cond b (Some n) None ≡ None → b ≡ false
place-none true n is = absurd (let k : Some n ≡ None = is in cc)
place-none false n is = refl

no-step : (b any : Bool) → (b || any) ≡ false → (b ≡ false) × (any ≡ false)
no-step true any is = absurd (let k : true ≡ false = is in cc)
no-step false any is = (refl, is)

pub none_there : (version : Version) (client_id : List ℕ) (q : Kept → Bool) (qs : List CodePending) (ps : List Pending) → position (λ p. q (kept_by p)) qs ≡ None → map kept_by qs ≡ map (kept_of version client_id) ps → first_that (λ p. q (kept_of version client_id p)) ps ≡ None
none_there version client_id q qs ps is same = by_any qs ps (any-position (λ p. q (kept_by p)) qs ∙ place-none (nat_lt (position_or_len (λ p. q (kept_by p)) qs) (length qs)) (position_or_len (λ p. q (kept_by p)) qs) is) same
  where
    heads : (x y : Kept) (xs ys : List Kept) → x ∷ xs ≡ y ∷ ys → (x ≡ y) × (xs ≡ ys)
    heads x y xs ys e = (cc, cc)

    by_any : (qs : List CodePending) (ps : List Pending) → list_any (λ p. q (kept_by p)) qs ≡ false → map kept_by qs ≡ map (kept_of version client_id) ps → first_that (λ p. q (kept_of version client_id p)) ps ≡ None
    by_any qs [] none e = refl
    by_any [] (p ∷ ps) none e = cc
    by_any (x ∷ qs) (p ∷ ps) none e =
        let n = no-step (q (kept_by x)) (list_any (λ p. q (kept_by p)) qs) none in
        let h = heads (kept_by x) (kept_of version client_id p) (map kept_by qs) (map (kept_of version client_id) ps) e in
        ap (λ b. cond b (Some p) (first_that (λ p. q (kept_of version client_id p)) ps)) (ap q (sym h.0) ∙ n.0) ∙ by_any qs ps n.1 h.1

-- and where something does
pub found_kept : (version : Version) (client_id : List ℕ) (q : Kept → Bool) (last : ℕ) (qs : List CodePending) (ps : List Pending) (i : ℕ) (d : CodePending) → position (λ p. q (kept_by p)) qs ≡ Some i → map kept_by qs ≡ map (kept_of version client_id) ps → AreRising last ps
    → FoundAt (λ p. q (kept_of version client_id p)) ps i
found_kept version client_id q last qs ps i d is same rising =
    let f = position-Some (λ p. q (kept_by p)) qs i d is in
    let n = same_length kept_by (kept_of version client_id) qs ps same in
    found_at (λ p. q (kept_of version client_id p)) last ps i nobody (omega (arith, f.0)) (sym (ap q (at_both version client_id qs ps i d nobody same f.0)) ∙ f.1)
    (λ j lt. sym (ap q (at_both version client_id qs ps j d nobody same (omega (arith, f.0)))) ∙ f.2 j lt) rising
