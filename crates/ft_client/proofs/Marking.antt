-- Kept calls that are noted as sent, one after another.
use Rattle.std.proofs.Common.{◌≡◌, ℕ, zero, suc, ◌<◌, List, [], ◌∷◌, ◌++◌, map, length, take, drop, slice_get, slice_index_or, slice_set, Option, Some, None, refl, sym, ap, subst, arith}
use Rattle.giop_core.specs.Content.{Rest}
use Rattle.ft_client.specs.declared.pending.Pending.{Pending as CodePending}
use Rattle.ft_client.specs.Keeping.{Kept, kept_by, left_at, marked, sent_again, unmarked}

-- a write to one call
pub marked_set : (ps : List CodePending) (i : ℕ) (x d : CodePending) (s : Option ℕ) → kept_by x ≡ record (kept_by (slice_index_or ps i d)) { sent = s } → map kept_by (slice_set ps i x) ≡ marked i s (map kept_by ps)
marked_set [] i x d s e = refl
marked_set (p ∷ ps) zero x d s e = ap (λ (k : Kept). k ∷ map kept_by ps) e
marked_set (p ∷ ps) (suc i) x d s e = ap (λ (ks : List Kept). kept_by p ∷ ks) (marked_set ps i x d s e)

-- a call that is left
pub left_set : (ps : List CodePending) (i : ℕ) (x d : CodePending) (led : Option Rest) → kept_by x ≡ record (kept_by (slice_index_or ps i d)) { sent = None; led = led } → map kept_by (slice_set ps i x) ≡ left_at i led (map kept_by ps)
left_set [] i x d led e = refl
left_set (p ∷ ps) zero x d led e = ap (λ (k : Kept). k ∷ map kept_by ps) e
left_set (p ∷ ps) (suc i) x d led e = ap (λ (ks : List Kept). kept_by p ∷ ks) (left_set ps i x d led e)

-- another call
pub put_set : (ps : List CodePending) (i : ℕ) (x : CodePending) → map kept_by (slice_set ps i x) ≡ slice_set (map kept_by ps) i (kept_by x)
put_set [] zero x = refl
put_set [] (suc i) x = refl
put_set (p ∷ ps) zero x = refl
put_set (p ∷ ps) (suc i) x = ap (λ (ks : List Kept). kept_by p ∷ ks) (put_set ps i x)

pub length_kept : (ps : List CodePending) → length (map kept_by ps) ≡ length ps
length_kept [] = refl
length_kept (p ∷ ps) = ap suc (length_kept ps)

pub length_marked : (i : ℕ) (s : Option ℕ) (ks : List Kept) → length (marked i s ks) ≡ length ks
length_marked i s [] = refl
length_marked zero s (k ∷ ks) = refl
length_marked (suc i) s (k ∷ ks) = ap suc (length_marked i s ks)

pub unmarked_marked : (i : ℕ) (s : Option ℕ) (ks : List Kept) → unmarked (marked i s ks) ≡ unmarked ks
unmarked_marked i s [] = refl
unmarked_marked zero s (k ∷ ks) = refl
unmarked_marked (suc i) s (k ∷ ks) = ap (λ (qs : List Kept). record k { sent = None } ∷ qs) (unmarked_marked i s ks)

-- one more call is noted as not sent
pub unmarked_step : (ks : List Kept) (i : ℕ) → i < length ks → take (suc i) (marked i None ks) ++ unmarked (drop (suc i) (marked i None ks)) ≡ take i ks ++ unmarked (drop i ks)
unmarked_step [] i lt = absurd (omega arith)
unmarked_step (k ∷ ks) zero lt = refl
unmarked_step (k ∷ ks) (suc i) lt = ap (λ (qs : List Kept). k ∷ qs) (unmarked_step ks i (omega arith))

unmarked_end : (ks : List Kept) → take (length ks) ks ++ unmarked (drop (length ks) ks) ≡ ks
unmarked_end [] = refl
unmarked_end (k ∷ ks) = ap (λ (qs : List Kept). k ∷ qs) (unmarked_end ks)

pub unmarked_all : (ks : List Kept) (i : ℕ) → i ≡ length ks → take i ks ++ unmarked (drop i ks) ≡ ks
unmarked_all ks i e = rw e (unmarked_end ks)

-- one more call is sent, or not
pub sent_step : (now n m : ℕ) (s : Option ℕ) (k : Kept) (ks : List Kept) (i : ℕ) → slice_get ks i ≡ Some k → ((rest : List Kept) → sent_again now n (k ∷ rest) ≡ record k { sent = s } ∷ sent_again now m rest)
    → take (suc i) (marked i s ks) ++ sent_again now m (drop (suc i) (marked i s ks)) ≡ take i ks ++ sent_again now n (drop i ks)
sent_step now n m s k [] i is h = absurd (cc)
sent_step now n m s k (x ∷ ks) zero is h = let same : x ≡ k = cc in subst (λ (y : Kept). record y { sent = s } ∷ sent_again now m ks ≡ sent_again now n (y ∷ ks)) (sym same) (sym (h ks))
sent_step now n m s k (x ∷ ks) (suc i) is h = ap (λ (qs : List Kept). x ∷ qs) (sent_step now n m s k ks i is h)

pub drop_here : (ks : List Kept) (i : ℕ) (k : Kept) (s : Option ℕ) → slice_get ks i ≡ Some k → (drop i ks ≡ k ∷ drop (suc i) ks) × (drop (suc i) (marked i s ks) ≡ drop (suc i) ks)
drop_here [] i k s is = absurd (cc)
drop_here (x ∷ ks) zero k s is = let same : x ≡ k = cc in (ap (λ (y : Kept). y ∷ ks) same, refl)
drop_here (x ∷ ks) (suc i) k s is = drop_here ks i k s is

pub kept_at : (ps : List CodePending) (i : ℕ) (d : CodePending) → i < length ps → slice_get (map kept_by ps) i ≡ Some (kept_by (slice_index_or ps i d))
kept_at [] i d lt = absurd (omega arith)
kept_at (p ∷ ps) zero d lt = refl
kept_at (p ∷ ps) (suc i) d lt = kept_at ps i d (omega arith)

-- after all of them
all_taken : (ks : List Kept) → take (length ks) ks ≡ ks
all_taken [] = refl
all_taken (k ∷ ks) = ap (λ (qs : List Kept). k ∷ qs) (all_taken ks)

pub take_ends : (ks : List Kept) (i : ℕ) → i ≡ length ks → take i ks ≡ ks
take_ends ks i e = rw e (all_taken ks)

drop_all : (ks : List Kept) → drop (length ks) ks ≡ []
drop_all [] = refl
drop_all (k ∷ ks) = drop_all ks

pub drop_ends : (ks : List Kept) (i : ℕ) → i ≡ length ks → drop i ks ≡ []
drop_ends ks i e = rw e (drop_all ks)
