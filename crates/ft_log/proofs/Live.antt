-- The entries whose expiration is at or after a moment.
use Rattle.std.proofs.Common.{◌≡◌, ℕ, suc, ◌+◌, ◌≤◌, ◌==◌, Bool, true, false, not, ◌&&◌, cond, nat_le, min, max, List, [], ◌∷◌, ◌++◌, length, map, filter, bytes_eq, Option, Some, None, MatchOption, refl, sym, ap, ◌∙◌, arith}
use Rattle.std.specs.Option.{option_map_or}
use Rattle.std.proofs.lemmas.Bool.{leb-true, leb-false, le-leb}
use Rattle.std.proofs.lemmas.Bool.Decides.{nat_tests}
use Rattle.std.proofs.lemmas.List.Elements.{filter-append}
use Rattle.std.proofs.lemmas.List.Sums.{sum_by-cons}
use Rattle.std.proofs.lemmas.Option.{none-some}
use Rattle.ft_log.specs.Holding.{Holding}
use Rattle.ft_log.specs.Keys.{RequestKey, clients_in, held_of, same_key}
use Rattle.ft_log.specs.Kept.{KeptOutcome, filled, filled_if, is_parked, is_parked_at, keys_of, kept_for, least_expiration, unexpired, withdrawn}
use Rattle.ft_log.specs.Performed.{Performed}
use Rattle.ft_log.specs.Store.{live}
use Rattle.ft_log.specs.View.{entries_at, entry_in}
use Rattle.ft_log.specs.declared.story.Entry.{Entry}

abbrev Kept : Type 0
Kept = KeptOutcome Holding

-- the same of the entries of the code
pub entries-live : (now : ℕ) (es : List Entry) → entries_at (live now es) ≡ unexpired now (entries_at es)
entries-live now [] = refl
entries-live now (e ∷ es) =
    (elim (nat_le now e.expiration) as (λ b. entries_at (cond b (e ∷ live now es) (live now es)) ≡ cond b (entry_in e ∷ entries_at (live now es)) (entries_at (live now es))) [ true ↦ refl | false ↦ refl ])
    ∙ ap (λ (l : List Kept). cond (nat_le now e.expiration) (entry_in e ∷ l) l) (entries-live now es)

-- two filters may change places
filters_change : {X : Type 0} (p q : X → Bool) (xs : List X) → filter p (filter q xs) ≡ filter q (filter p xs)
filters_change p q [] = refl
filters_change {X} p q (x ∷ xs) = by (p x) (q x) refl refl (filters_change p q xs)
  where
    by : (a b : Bool) → p x ≡ a → q x ≡ b → filter p (filter q xs) ≡ filter q (filter p xs) → filter p (cond b (x ∷ filter q xs) (filter q xs)) ≡ filter q (cond a (x ∷ filter p xs) (filter p xs))
    by true true s t more = (λ i. cond (s i) (x ∷ filter p (filter q xs)) (filter p (filter q xs))) ∙ ap (λ (l : List X). x ∷ l) more ∙ sym (λ i. cond (t i) (x ∷ filter q (filter p xs)) (filter q (filter p xs)))
    by true false s t more = more ∙ sym (λ i. cond (t i) (x ∷ filter q (filter p xs)) (filter q (filter p xs)))
    by false true s t more = (λ i. cond (s i) (x ∷ filter p (filter q xs)) (filter p (filter q xs))) ∙ more
    by false false s t more = more

pub unexpired-withdrawn : (now : ℕ) (key : RequestKey) (number : ℕ) (l : List Kept) → unexpired now (withdrawn key number l) ≡ withdrawn key number (unexpired now l)
unexpired-withdrawn now key number l = filters_change (λ e. nat_le now e.expiration) (λ e. not (is_parked_at key number e)) l

-- of two moments the later one says what is left
pub unexpired-max : (a b : ℕ) (l : List Kept) → unexpired (max a b) l ≡ unexpired b (unexpired a l)
unexpired-max a b [] = refl
unexpired-max a b (e ∷ l) = by (nat_le (max a b) e.expiration) (nat_le a e.expiration) (nat_le b e.expiration) refl refl refl (unexpired-max a b l)
  where
    by : (m x y : Bool) → nat_le (max a b) e.expiration ≡ m → nat_le a e.expiration ≡ x → nat_le b e.expiration ≡ y → unexpired (max a b) l ≡ unexpired b (unexpired a l)
        → cond m (e ∷ unexpired (max a b) l) (unexpired (max a b) l) ≡ unexpired b (cond x (e ∷ unexpired a l) (unexpired a l))
    by true true true s t u more = ap (λ (k : List Kept). e ∷ k) more ∙ sym (λ i. cond (u i) (e ∷ unexpired b (unexpired a l)) (unexpired b (unexpired a l)))
    by true false y s t u more = absurd (omega (arith, leb-true _ _ s, leb-false _ _ t))
    by true true false s t u more = absurd (omega (arith, leb-true _ _ s, leb-false _ _ u))
    by false true true s t u more = absurd (omega (arith, leb-false _ _ s, leb-true _ _ t, leb-true _ _ u))
    by false false y s t u more = more
    by false true false s t u more = more ∙ sym (λ i. cond (u i) (e ∷ unexpired b (unexpired a l)) (unexpired b (unexpired a l)))

pub unexpired-again : (now : ℕ) (l : List Kept) → unexpired now (unexpired now l) ≡ unexpired now l
unexpired-again now l = sym (unexpired-max now now l) ∙ (let same : max now now ≡ now = omega arith in ap (λ n. unexpired n l) same)

-- what is filled expires when it did
pub unexpired-filled : (now : ℕ) (key : RequestKey) (number : ℕ) (outcome : Performed) (l : List Kept) → unexpired now (map (filled key number outcome) l) ≡ map (filled key number outcome) (unexpired now l)
unexpired-filled now key number outcome [] = refl
unexpired-filled now key number outcome (e ∷ l) =
    let f : Kept → Kept = filled key number outcome in
    let rest : List Kept = map f l in
    ap (λ n. cond (nat_le now n) (f e ∷ unexpired now rest) (unexpired now rest)) (same (same_key key e.key && is_parked number e.outcome))
    ∙ (elim (nat_le now e.expiration) as (λ b. cond b (f e ∷ unexpired now rest) (unexpired now rest) ≡ map f (cond b (e ∷ unexpired now l) (unexpired now l)))
    [ true ↦ ap (λ (k : List Kept). f e ∷ k) (unexpired-filled now key number outcome l) | false ↦ unexpired-filled now key number outcome l ])
  where
    same : (b : Bool) → (filled_if b outcome e).expiration ≡ e.expiration
    same true = refl
    same false = refl

-- one more, which is live
pub unexpired-push : (now : ℕ) (l : List Kept) (e : Kept) → now ≤ e.expiration → unexpired now (l ++ e ∷ []) ≡ unexpired now l ++ e ∷ []
unexpired-push now l e le =
    let there : nat_le now e.expiration ≡ true = le-leb now e.expiration le in
    filter-append (λ (x : Kept). nat_le now x.expiration) l (e ∷ []) ∙ (λ i. unexpired now l ++ cond (there i) (e ∷ []) [])

-- nothing expires before the least expiration
pub stays_least : (now : ℕ) (l : List Kept) → MatchOption (least_expiration l) (Unit {0}) (λ t. now ≤ t) → unexpired now l ≡ l
stays_least now [] h = refl
stays_least now (e ∷ l) h =
    let both = parts (least_expiration l) h in
    let there : nat_le now e.expiration ≡ true = le-leb now e.expiration both.0 in
    (λ i. cond (there i) (e ∷ unexpired now l) (unexpired now l)) ∙ ap (λ (k : List Kept). e ∷ k) (stays_least now l both.1)
  where
    parts : (o : Option ℕ) → now ≤ option_map_or (min e.expiration) o e.expiration → (now ≤ e.expiration) × MatchOption o (Unit {0}) (λ t. now ≤ t)
    parts None h = (h, tt)
    parts (Some t) h = (omega (arith, h), omega (arith, h))

-- no more, in all and of each client
pub length-unexpired : (now : ℕ) (l : List Kept) → length (unexpired now l) ≤ length l
length-unexpired now [] = omega arith
length-unexpired now (e ∷ l) =
    let later = length-unexpired now l in
    elim (nat_le now e.expiration) as (λ b. length (cond b (e ∷ unexpired now l) (unexpired now l)) ≤ length (e ∷ l)) [ true ↦ omega (arith, later) | false ↦ omega (arith, later) ]

pub held-unexpired : (client : List ℕ) (now : ℕ) (l : List Kept) → held_of client (keys_of (unexpired now l)) ≤ held_of client (keys_of l)
held-unexpired client now [] = omega arith
held-unexpired client now (e ∷ l) =
    let test : RequestKey → ℕ = λ k. cond (bytes_eq k.client_id client) 1 0 in
    let all = sum_by-cons test e.key (keys_of l) in
    let left = sum_by-cons test e.key (keys_of (unexpired now l)) in
    let later = held-unexpired client now l in
    elim (nat_le now e.expiration) as (λ b. held_of client (keys_of (cond b (e ∷ unexpired now l) (unexpired now l))) ≤ held_of client (keys_of (e ∷ l))) [ true ↦ omega (arith, all, left, later) | false ↦ omega (arith, all, later) ]

-- how many clients more may have asked: one for each that is not live
pub clients-unexpired : (now : ℕ) (l : List Kept) → clients_in (keys_of l) + length (unexpired now l) ≤ clients_in (keys_of (unexpired now l)) + length l
clients-unexpired now [] = omega arith
clients-unexpired now (e ∷ l) =
    let later = clients-unexpired now l in
    let fewer = held-unexpired e.key.client_id now l in
    elim (nat_le now e.expiration) as (λ b. clients_in (keys_of (e ∷ l)) + length (cond b (e ∷ unexpired now l) (unexpired now l)) ≤ clients_in (keys_of (cond b (e ∷ unexpired now l) (unexpired now l))) + length (e ∷ l)) [
      | true ↦ with_one (held_of e.key.client_id (keys_of l)) (held_of e.key.client_id (keys_of (unexpired now l))) (clients_in (keys_of l)) (clients_in (keys_of (unexpired now l))) (length l) (length (unexpired now l)) fewer later
      | false ↦ without_one (held_of e.key.client_id (keys_of l)) (clients_in (keys_of l)) (clients_in (keys_of (unexpired now l))) (length l) (length (unexpired now l)) later
    ]
  where
    with_one : (h k c d m n : ℕ) → k ≤ h → c + n ≤ d + m → (cond (h == 0) 1 0 + c) + suc n ≤ (cond (k == 0) 1 0 + d) + suc m
    with_one h k c d m n le more = grind (arith, nat_tests)

    without_one : (h c d m n : ℕ) → c + n ≤ d + m → (cond (h == 0) 1 0 + c) + n ≤ d + suc m
    without_one h c d m n more = grind (arith, nat_tests)

-- all is live at the first moment
pub unexpired-zero : (l : List Kept) → unexpired 0 l ≡ l
unexpired-zero [] = refl
unexpired-zero (e ∷ l) =
    let there : nat_le 0 e.expiration ≡ true = le-leb 0 e.expiration (omega arith) in
    (λ i. cond (there i) (e ∷ unexpired 0 l) (unexpired 0 l)) ∙ ap (λ (k : List Kept). e ∷ k) (unexpired-zero l)

-- what is not there is not live
pub none-unexpired : (now : ℕ) (key : RequestKey) (l : List Kept) → kept_for key l ≡ None → kept_for key (unexpired now l) ≡ None
none-unexpired now key [] h = refl
none-unexpired now key (e ∷ l) h = by (same_key key e.key) refl h (none-unexpired now key l)
  where
    by : (b : Bool) → same_key key e.key ≡ b → cond b (Some e.outcome) (kept_for key l) ≡ None → (kept_for key l ≡ None → kept_for key (unexpired now l) ≡ None) → kept_for key (unexpired now (e ∷ l)) ≡ None
    by true t is more = absurd (none-some e.outcome (sym is))
    by false t is more =
        elim (nat_le now e.expiration) as (λ b. kept_for key (cond b (e ∷ unexpired now l) (unexpired now l)) ≡ None)
        [ true ↦ (λ i. cond (t i) (Some e.outcome) (kept_for key (unexpired now l))) ∙ more is | false ↦ more is ]
