-- Entries of the code: what is found in them, and what is left without one of them.
use Rattle.std.proofs.Common.{◌≡◌, ℕ, ◌+◌, ◌<◌, ◌≤◌, Bool, true, false, not, ◌&&◌, ◌==◌, cond, nat_lt, nat_le, min, List, [], ◌∷◌, ◌++◌, length, bytes_eq, Option, Some, None, option_map, IfSome, is_some, refl, sym, ap, ◌∙◌, subst, true≢false, arith, append-nil, length-append}
use Rattle.std.specs.Borrow.{Bor}
use Rattle.std.specs.List.{list_any, sum_by}
use Rattle.std.specs.Option.{option_copied, option_map_or}
use Rattle.std.proofs.lemmas.Bool.{and_parts, and_from, or_parts, or_from, not_from_false, ltb-false, leb-true, le-leb, eqb-true, eq-eqb}
use Rattle.std.proofs.lemmas.Bool.Decides.{Decides-like, nat_tests, same_from_decides}
use Rattle.std.proofs.lemmas.List.Sums.{sum_by-cons, sum_by-append}
use Rattle.std.proofs.lemmas.Slice.Eq.{bytes_eq-Decides}
use Rattle.ft_log.specs.Keys.{RequestKey, are_distinct, clients_in, held_of, same_key}
use Rattle.ft_log.specs.Kept.{keys_of, kept_for, least_expiration, unexpired}
use Rattle.ft_log.specs.Tied.{due_of, outcome_for}
use Rattle.ft_log.specs.View.{entries_at, entry_in, holding_in, key_of}
use Rattle.ft_log.specs.Without.{without}
use Rattle.ft_log.specs.declared.story.Entry.{Entry}
use Rattle.ft_log.specs.declared.held.Held.{Held}
use Rattle.ft_log.proofs.Listed.{false_from_not, itself, same_is}

abbrev pub keys_at : List Entry → List RequestKey
keys_at es = keys_of (entries_at es)

-- what is found
pub kept_for-outcome : (key : RequestKey) (es : List Entry) → option_map holding_in (outcome_for key es) ≡ kept_for key (entries_at es)
kept_for-outcome key [] = refl
kept_for-outcome key (e ∷ es) =
    elim (same_key key (key_of e.key)) as (λ b. option_map holding_in (cond b (Some e.outcome) (outcome_for key es)) ≡ cond b (Some (holding_in e.outcome)) (kept_for key (entries_at es)))
    [ true ↦ refl | false ↦ kept_for-outcome key es ]

pub copied : (r : Option (Bor Held)) → option_map (λ o. holding_in o.now) r ≡ option_map holding_in (option_copied r)
copied None = refl
copied (Some o) = refl

-- how many
pub length_sum : {X : Type 0} (xs : List X) → sum_by (λ _. 1) xs ≡ length xs
length_sum [] = refl
length_sum {X} (x ∷ xs) = let more = sum_by-cons (λ (_ : X). 1) x xs in omega (arith, more, length_sum xs)

-- of a client
pub held_sum : (client : List ℕ) (es : List Entry) → sum_by (λ (e : Entry). cond (bytes_eq (key_of e.key).client_id client) 1 0) es ≡ held_of client (keys_at es)
held_sum client [] = refl
held_sum client (e ∷ es) =
    let a = sum_by-cons (λ (x : Entry). cond (bytes_eq (key_of x.key).client_id client) 1 0) e es in
    let z = sum_by-cons (λ (k : RequestKey). cond (bytes_eq k.client_id client) 1 0) (key_of e.key) (keys_at es) in
    omega (arith, a, z, held_sum client es)

-- an entry of the list, with this expiration and this key
pub record IsSplit (x : ℕ) (key : RequestKey) (es : List Entry) : Type 0 where
  pub front : List Entry
  pub entry : Entry
  pub rest : List Entry
  pub is : es ≡ front ++ entry ∷ rest
  pub until : entry.expiration ≡ x
  pub of_key : key_of entry.key ≡ key

-- 1 for it, and 0 for others
abbrev pub one : ℕ → RequestKey → ℕ × RequestKey → ℕ
one x key p = cond (p.0 == x && same_key key p.1) 1 0

pub one_itself : (x : ℕ) (key : RequestKey) → one x key (x, key) ≡ 1
one_itself x key = ap (λ b. cond b 1 0) (and_from (x == x) (same_key key key) (eq-eqb x x refl) (itself key))

pub split : (x : ℕ) (key : RequestKey) (es : List Entry) → 0 < sum_by (λ e. one x key (due_of e)) es → IsSplit x key es
split x key [] h = absurd (omega (arith, h))
split x key (e ∷ es) h = by (e.expiration == x && same_key key (key_of e.key)) refl (split x key es)
  where
    by : (b : Bool) → (e.expiration == x && same_key key (key_of e.key)) ≡ b → (0 < sum_by (λ z. one x key (due_of z)) es → IsSplit x key es) → IsSplit x key (e ∷ es)
    by true t more = let p = and_parts (e.expiration == x) (same_key key (key_of e.key)) t in
        record { front = []; entry = e; rest = es; is = refl; until = eqb-true e.expiration x p.0; of_key = sym (same_is key (key_of e.key) p.1) }
    by false t more =
        let none : one x key (due_of e) ≡ 0 = ap (λ b. cond b 1 0) t in
        let all = sum_by-cons (λ (z : Entry). one x key (due_of z)) e es in
        let later = more (omega (arith, h, none, all)) in
        record { front = e ∷ later.front; entry = later.entry; rest = later.rest; is = ap (λ l. e ∷ l) later.is; until = later.until; of_key = later.of_key }

pub same_comm : (a b : RequestKey) → same_key a b ≡ same_key b a
same_comm a b = by (same_key a b) (same_key b a) refl refl
  where
    by : (p q : Bool) → same_key a b ≡ p → same_key b a ≡ q → p ≡ q
    by true true e f = refl
    by false false e f = refl
    by true false e f = absurd (true≢false (sym (itself a) ∙ ap (λ k. same_key k a) (same_is a b e) ∙ f))
    by false true e f = absurd (true≢false (sym (itself b) ∙ ap (λ k. same_key k b) (same_is b a f) ∙ e))

-- nothing is left out where no entry has the key
pub without_none : (key : RequestKey) (es : List Entry) → list_any (λ k. same_key k key) (keys_at es) ≡ false → without key es ≡ es
without_none key [] h = refl
without_none key (e ∷ es) h =
    let parts = or_parts (same_key (key_of e.key) key) (list_any (λ k. same_key k key) (keys_at es)) h in
    let other = same_comm key (key_of e.key) ∙ parts.0 in
    (λ i. cond (not (other i)) (e ∷ without key es) (without key es)) ∙ ap (λ l. e ∷ l) (without_none key es parts.1)

-- of distinct keys one entry is left out
pub without-split : (front : List Entry) (e : Entry) (rest : List Entry) → are_distinct (keys_at (front ++ e ∷ rest)) ≡ true → without (key_of e.key) (front ++ e ∷ rest) ≡ front ++ rest
without-split [] e rest h =
    let key : RequestKey = key_of e.key in
    let parts = and_parts (not (list_any (λ k. same_key k key) (keys_at rest))) (are_distinct (keys_at rest)) h in
    (λ i. cond (not (itself key i)) (e ∷ without key rest) (without key rest)) ∙ without_none key rest (false_from_not _ parts.0)
without-split (f ∷ front) e rest h =
    let key : RequestKey = key_of e.key in
    let all : List Entry = front ++ e ∷ rest in
    let parts = and_parts (not (list_any (λ k. same_key k (key_of f.key)) (keys_at all))) (are_distinct (keys_at all)) h in
    let other = passes_at front e rest (λ k. same_key k (key_of f.key)) (false_from_not _ parts.0) in
    (λ i. cond (not (other i)) (f ∷ without key all) (without key all)) ∙ ap (λ l. f ∷ l) (without-split front e rest parts.1)
  where
    passes_at : (front : List Entry) (e : Entry) (rest : List Entry) (p : RequestKey → Bool) → list_any p (keys_at (front ++ e ∷ rest)) ≡ false → p (key_of e.key) ≡ false
    passes_at [] e rest p h = (or_parts (p (key_of e.key)) (list_any p (keys_at rest)) h).0
    passes_at (f ∷ front) e rest p h = passes_at front e rest p (or_parts (p (key_of f.key)) (list_any p (keys_at (front ++ e ∷ rest))) h).1

-- .. and of no key more than one
pub without_few : (key : RequestKey) (es : List Entry) → are_distinct (keys_at es) ≡ true → length es ≤ length (without key es) + 1
without_few key [] h = omega arith
without_few key (e ∷ es) h =
    let parts = and_parts (not (list_any (λ k. same_key k (key_of e.key)) (keys_at es))) (are_distinct (keys_at es)) h in
    by (same_key key (key_of e.key)) refl (false_from_not _ parts.0) (without_few key es parts.1)
  where
    by : (b : Bool) → same_key key (key_of e.key) ≡ b → list_any (λ k. same_key k (key_of e.key)) (keys_at es) ≡ false → length es ≤ length (without key es) + 1 → length (e ∷ es) ≤ length (without key (e ∷ es)) + 1
    by true t none more =
        let here = ap (λ (k : RequestKey). list_any (λ q. same_key q k) (keys_at es)) (same_is key (key_of e.key) t) ∙ none in
        let all = (λ i. cond (not (t i)) (e ∷ without key es) (without key es)) ∙ without_none key es here in
        omega (arith, ap (λ (l : List Entry). length l) all)
    by false f none more =
        let all : without key (e ∷ es) ≡ e ∷ without key es = λ i. cond (not (f i)) (e ∷ without key es) (without key es) in
        omega (arith, ap (λ (l : List Entry). length l) all, more)

pub sum-split : (g : Entry → ℕ) (front : List Entry) (e : Entry) (rest : List Entry) → sum_by g (front ++ rest) + g e ≡ sum_by g (front ++ e ∷ rest)
sum-split g front e rest =
    let a = sum_by-append g front rest in
    let z = sum_by-append g front (e ∷ rest) in
    let more = sum_by-cons g e rest in
    omega (arith, a, z, more)

-- an expired entry more makes no difference once what is expired is forgotten
pub unexpired-split : (now : ℕ) (front : List Entry) (e : Entry) (rest : List Entry) → e.expiration < now → unexpired now (entries_at (front ++ rest)) ≡ unexpired now (entries_at (front ++ e ∷ rest))
unexpired-split now [] e rest lt =
    let gone : nat_le now e.expiration ≡ false = by (nat_le now e.expiration) refl in
    sym (λ i. cond (gone i) (entry_in e ∷ unexpired now (entries_at rest)) (unexpired now (entries_at rest)))
  where
    by : (b : Bool) → nat_le now e.expiration ≡ b → b ≡ false
    by true t = absurd (omega (arith, lt, leb-true now e.expiration t))
    by false t = refl
unexpired-split now (f ∷ front) e rest lt = ap (λ l. cond (nat_le now f.expiration) (entry_in f ∷ l) l) (unexpired-split now front e rest lt)

pub outcome_for-without : (key other : RequestKey) (es : List Entry) → outcome_for other (without key es) ≡ cond (same_key other key) None (outcome_for other es)
outcome_for-without key other [] = elim (same_key other key) as (λ b. ◌≡◌ {A = Option Held} None (cond b None None)) [ true ↦ refl | false ↦ refl ]
outcome_for-without key other (e ∷ es) = by (same_key key (key_of e.key)) (same_key other (key_of e.key)) refl refl (outcome_for-without key other es)
  where
    by : (b d : Bool) → same_key key (key_of e.key) ≡ b → same_key other (key_of e.key) ≡ d → outcome_for other (without key es) ≡ cond (same_key other key) None (outcome_for other es)
        → outcome_for other (cond (not b) (e ∷ without key es) (without key es)) ≡ cond (same_key other key) None (cond d (Some e.outcome) (outcome_for other es))
    by true true s t more =
        let is : other ≡ key = same_is other (key_of e.key) t ∙ sym (same_is key (key_of e.key) s) in
        let same : same_key other key ≡ true = ap (same_key other) (sym is) ∙ itself other in
        more ∙ (λ i. cond (same i) None (outcome_for other es)) ∙ sym (λ i. cond (same i) None (Some e.outcome))
    by true false s t more = more
    by false true s t more =
        let differ : same_key other key ≡ false = apart (same_key other key) refl in
        (λ i. cond (t i) (Some e.outcome) (outcome_for other (without key es))) ∙ sym (λ i. cond (differ i) None (Some e.outcome))
      where
        apart : (b : Bool) → same_key other key ≡ b → b ≡ false
        apart true u = absurd (true≢false (sym t ∙ ap (λ k. same_key k (key_of e.key)) (same_is other key u) ∙ s))
        apart false u = refl
    by false false s t more = (λ i. cond (t i) (Some e.outcome) (outcome_for other (without key es))) ∙ more

-- a test that no key passes is passed by none that is left
pub list_any-without : (p : RequestKey → Bool) (key : RequestKey) (es : List Entry) → list_any p (keys_at es) ≡ false → list_any p (keys_at (without key es)) ≡ false
list_any-without p key [] h = refl
list_any-without p key (e ∷ es) h =
    let parts = or_parts (p (key_of e.key)) (list_any p (keys_at es)) h in
    let later = list_any-without p key es parts.1 in
    elim (same_key key (key_of e.key)) as (λ b. list_any p (keys_at (cond (not b) (e ∷ without key es) (without key es))) ≡ false)
    [ true ↦ later | false ↦ or_from (p (key_of e.key)) (list_any p (keys_at (without key es))) parts.0 later ]

pub are_distinct-without : (key : RequestKey) (es : List Entry) → are_distinct (keys_at es) ≡ true → are_distinct (keys_at (without key es)) ≡ true
are_distinct-without key [] h = refl
are_distinct-without key (e ∷ es) h =
    let p : RequestKey → Bool = λ later. same_key later (key_of e.key) in
    let parts = and_parts (not (list_any p (keys_at es))) (are_distinct (keys_at es)) h in
    let later = are_distinct-without key es parts.1 in
    let none = list_any-without p key es (false_from_not (list_any p (keys_at es)) parts.0) in
    elim (same_key key (key_of e.key)) as (λ b. are_distinct (keys_at (cond (not b) (e ∷ without key es) (without key es))) ≡ true)
    [ true ↦ later | false ↦ and_from (not (list_any p (keys_at (without key es)))) (are_distinct (keys_at (without key es))) (not_from_false _ none) later ]

pub length_push : (es : List Entry) (e : Entry) → length (es ++ e ∷ []) ≡ length es + 1
length_push es e = omega (arith, length-append es (e ∷ []))

-- one more entry, of a key that has none
pub outcome_for-push : (other : RequestKey) (es : List Entry) (e : Entry) → list_any (λ k. same_key (key_of e.key) k) (keys_at es) ≡ false
    → outcome_for other (es ++ e ∷ []) ≡ cond (same_key other (key_of e.key)) (Some e.outcome) (outcome_for other es)
outcome_for-push other [] e h = refl
outcome_for-push other (f ∷ es) e h =
    by (same_key other (key_of f.key)) refl (outcome_for-push other es e (or_parts (same_key (key_of e.key) (key_of f.key)) (list_any (λ k. same_key (key_of e.key) k) (keys_at es)) h).1)
  where
    none : same_key (key_of e.key) (key_of f.key) ≡ false
    none = (or_parts (same_key (key_of e.key) (key_of f.key)) (list_any (λ k. same_key (key_of e.key) k) (keys_at es)) h).0

    by : (b : Bool) → same_key other (key_of f.key) ≡ b → outcome_for other (es ++ e ∷ []) ≡ cond (same_key other (key_of e.key)) (Some e.outcome) (outcome_for other es)
        → cond b (Some f.outcome) (outcome_for other (es ++ e ∷ [])) ≡ cond (same_key other (key_of e.key)) (Some e.outcome) (cond b (Some f.outcome) (outcome_for other es))
    by true t more =
        let differ : same_key other (key_of e.key) ≡ false = apart (same_key other (key_of e.key)) refl in
        sym (λ i. cond (differ i) (Some e.outcome) (Some f.outcome))
      where
        apart : (b : Bool) → same_key other (key_of e.key) ≡ b → b ≡ false
        apart true u = absurd (true≢false (sym t ∙ ap (λ k. same_key k (key_of f.key)) (same_is other (key_of e.key) u) ∙ none))
        apart false u = refl
    by false t more = more

-- none of the entries expires before this
abbrev pub NoneBefore : ℕ → List Entry → Type 0
NoneBefore t es = sum_by (λ e. cond (nat_lt e.expiration t) 1 0) es ≡ 0

-- of the front and of the rest
pub none_parts : (t : ℕ) (e : Entry) (es : List Entry) → NoneBefore t (e ∷ es) → (nat_lt e.expiration t ≡ false) × NoneBefore t es
none_parts t e es h = by (nat_lt e.expiration t) refl
  where
    by : (b : Bool) → nat_lt e.expiration t ≡ b → (nat_lt e.expiration t ≡ false) × NoneBefore t es
    by true u =
        let more = sum_by-cons (λ (z : Entry). cond (nat_lt z.expiration t) 1 0) e es in
        let here : ◌≡◌ {A = ℕ} (cond (nat_lt e.expiration t) 1 0) 1 = ap (λ b. cond b 1 0) u in
        absurd (omega (arith, h, more, here))
    by false u =
        let more = sum_by-cons (λ (z : Entry). cond (nat_lt z.expiration t) 1 0) e es in
        let here : ◌≡◌ {A = ℕ} (cond (nat_lt e.expiration t) 1 0) 0 = ap (λ b. cond b 1 0) u in
        (u, omega (arith, h, more, here))

-- so all of them stay at any moment up to it
pub all_stay : (t now : ℕ) (es : List Entry) → now ≤ t → NoneBefore t es → unexpired now (entries_at es) ≡ entries_at es
all_stay t now [] le h = refl
all_stay t now (e ∷ es) le h =
    let parts = none_parts t e es h in
    let stays : nat_le now e.expiration ≡ true = le-leb now e.expiration (omega (arith, le, ltb-false e.expiration t parts.0)) in
    (λ i. cond (stays i) (entry_in e ∷ unexpired now (entries_at es)) (unexpired now (entries_at es))) ∙ ap (λ l. entry_in e ∷ l) (all_stay t now es le parts.1)

not_below : (t : ℕ) (es : List Entry) → NoneBefore t es → IfSome (least_expiration (entries_at es)) (λ s. t ≤ s)
not_below t [] h = tt
not_below t (e ∷ es) h =
    let parts = none_parts t e es h in
    let here = ltb-false e.expiration t parts.0 in
    elim (least_expiration (entries_at es)) as (λ o. IfSome o (λ s. t ≤ s) → t ≤ option_map_or (min e.expiration) o e.expiration)
    [ None ↦ λ k. omega (arith, here) | Some s ↦ λ k. omega (arith, here, k) ] (not_below t es parts.1)

least_first : (t x : ℕ) (o : Option ℕ) → x ≡ t → IfSome o (λ s. t ≤ s) → option_map_or (min x) o x ≡ t
least_first t x None is h = is
least_first t x (Some s) is h = omega (arith, is, h)

-- the least expiration is one that an entry has, and before which none has its own
pub least_is : (t : ℕ) (es : List Entry) → NoneBefore t es → 0 < sum_by (λ (e : Entry). cond (e.expiration == t) 1 0) es → least_expiration (entries_at es) ≡ Some t
least_is t [] h there = absurd (omega (arith, there))
least_is t (e ∷ es) h there = by (e.expiration == t) refl (least_is t es parts.1)
  where
    parts : (nat_lt e.expiration t ≡ false) × NoneBefore t es
    parts = none_parts t e es h

    by : (b : Bool) → (e.expiration == t) ≡ b → (0 < sum_by (λ (z : Entry). cond (z.expiration == t) 1 0) es → least_expiration (entries_at es) ≡ Some t) → least_expiration (entries_at (e ∷ es)) ≡ Some t
    by true u more = ap Some (least_first t e.expiration (least_expiration (entries_at es)) (eqb-true e.expiration t u) (not_below t es parts.1))
    by false u more =
        let all = sum_by-cons (λ (z : Entry). cond (z.expiration == t) 1 0) e es in
        let here : ◌≡◌ {A = ℕ} (cond (e.expiration == t) 1 0) 0 = ap (λ b. cond b 1 0) u in
        let later = more (omega (arith, there, all, here)) in
        let le = ltb-false e.expiration t parts.0 in
        ap Some (ap (λ o. option_map_or (min e.expiration) o e.expiration) later ∙ omega (arith, le))

-- an entry is found under its key
outcome_for-split : (key : RequestKey) (front : List Entry) (e : Entry) (rest : List Entry) → same_key key (key_of e.key) ≡ true → is_some (outcome_for key (front ++ e ∷ rest)) ≡ true
outcome_for-split key [] e rest h = λ i. is_some (cond (h i) (Some e.outcome) (outcome_for key rest))
outcome_for-split key (f ∷ front) e rest h =
    elim (same_key key (key_of f.key)) as (λ b. is_some (cond b (Some f.outcome) (outcome_for key (front ++ e ∷ rest))) ≡ true)
    [ true ↦ refl | false ↦ outcome_for-split key front e rest h ]

-- one entry more, at any place: of a client, and of how many clients
pub held-split : (client : List ℕ) (front : List Entry) (e : Entry) (rest : List Entry)
    → held_of client (keys_at (front ++ e ∷ rest)) ≡ held_of client (keys_at (front ++ rest)) + cond (bytes_eq (key_of e.key).client_id client) 1 0
held-split client front e rest =
    let all = sum-split (λ (x : Entry). cond (bytes_eq (key_of x.key).client_id client) 1 0) front e rest in
    omega (arith, all, held_sum client (front ++ rest), held_sum client (front ++ e ∷ rest))

bytes_eq_comm : (a b : List ℕ) → bytes_eq a b ≡ bytes_eq b a
bytes_eq_comm a b = same_from_decides (bytes_eq a b) (bytes_eq b a) (bytes_eq-Decides a b) (Decides-like (bytes_eq b a) sym sym (bytes_eq-Decides b a))

-- one key more, after the last of its client or before: x is how many the other client has, y how many its own
last_moves : (b : Bool) (x y m n : ℕ) → (b ≡ true → x ≡ y) → n ≡ m + cond (y == 0) 1 0
    → cond (x + cond b 1 0 == 0) 1 0 + n ≡ (cond (x == 0) 1 0 + m) + cond (cond b 1 0 + y == 0) 1 0
last_moves true x y m n same is = let e = same refl in grind (arith, nat_tests)
last_moves false x y m n same is = grind (arith, nat_tests)

-- no more clients than keys
pub clients_few : (ks : List RequestKey) → clients_in ks ≤ length ks
clients_few [] = omega arith
clients_few (k ∷ ks) = let later = clients_few ks in grind (arith, nat_tests)

pub clients-split : (front : List Entry) (e : Entry) (rest : List Entry)
    → clients_in (keys_at (front ++ e ∷ rest)) ≡ clients_in (keys_at (front ++ rest)) + cond (held_of (key_of e.key).client_id (keys_at (front ++ rest)) == 0) 1 0
clients-split [] e rest = omega arith
clients-split (f ∷ front) e rest =
    let here : List ℕ = (key_of e.key).client_id in
    let theirs : List ℕ = (key_of f.key).client_id in
    let old : List RequestKey = keys_at (front ++ rest) in
    let new : List RequestKey = keys_at (front ++ e ∷ rest) in
    let same : bytes_eq here theirs ≡ true → held_of theirs old ≡ held_of here old = λ t. ap (λ c. held_of c old) (sym ((bytes_eq-Decides here theirs).0 t)) in
    let more : held_of theirs new ≡ held_of theirs old + cond (bytes_eq here theirs) 1 0 = held-split theirs front e rest in
    let own : held_of here (key_of f.key ∷ old) ≡ cond (bytes_eq here theirs) 1 0 + held_of here old =
    sum_by-cons (λ (k : RequestKey). cond (bytes_eq k.client_id here) 1 0) (key_of f.key) old ∙ ap (λ b. cond b 1 0 + held_of here old) (bytes_eq_comm theirs here) in
    ap (λ n. cond (n == 0) 1 0 + clients_in new) more
    ∙ last_moves (bytes_eq here theirs) (held_of theirs old) (held_of here old) (clients_in old) (clients_in new) same (clients-split front e rest)
    ∙ ap (λ n. clients_in (key_of f.key ∷ old) + cond (n == 0) 1 0) (sym own)

-- the same of the last
pub clients-push : (es : List Entry) (e : Entry) → clients_in (keys_at (es ++ e ∷ [])) ≡ clients_in (keys_at es) + cond (held_of (key_of e.key).client_id (keys_at es) == 0) 1 0
clients-push es e = clients-split es e [] ∙ ap (λ l. clients_in (keys_at l) + cond (held_of (key_of e.key).client_id (keys_at l) == 0) 1 0) (append-nil es)

-- what is left without one entry
pub record IsLeft (x : ℕ) (key : RequestKey) (es : List Entry) : Type 0 where
  pub entry : Entry
  pub until : entry.expiration ≡ x
  pub of_key : key_of entry.key ≡ key
  pub sums : (g : Entry → ℕ) → sum_by g (without key es) + g entry ≡ sum_by g es
  pub same : (now : ℕ) → x < now → unexpired now (entries_at (without key es)) ≡ unexpired now (entries_at es)
  pub found : is_some (outcome_for key es) ≡ true
  pub clients : clients_in (keys_at es) ≡ clients_in (keys_at (without key es)) + cond (held_of key.client_id (keys_at (without key es)) == 0) 1 0

pub left_from : (x : ℕ) (key : RequestKey) (es : List Entry) → IsSplit x key es → are_distinct (keys_at es) ≡ true → IsLeft x key es
left_from x key es s distinct =
    let there = subst (λ (l : List Entry). are_distinct (keys_at l) ≡ true) s.is distinct in
    let left : without key es ≡ s.front ++ s.rest = (λ i. without (sym s.of_key i) (s.is i)) ∙ without-split s.front s.entry s.rest there in
    let back = sym left in
    record {
      entry = s.entry;
      until = s.until;
      of_key = s.of_key;
      sums = λ g. ap (λ l. sum_by g l + g s.entry) left ∙ sum-split g s.front s.entry s.rest ∙ ap (sum_by g) (sym s.is);
      same = λ now lt. ap (λ l. unexpired now (entries_at l)) left ∙ unexpired-split now s.front s.entry s.rest (omega (arith, lt, s.until)) ∙ ap (λ l. unexpired now (entries_at l)) (sym s.is);
      found = ap (λ l. is_some (outcome_for key l)) s.is ∙ outcome_for-split key s.front s.entry s.rest (ap (same_key key) s.of_key ∙ itself key);
      clients = ap (λ l. clients_in (keys_at l)) s.is ∙ clients-split s.front s.entry s.rest
          ∙ (λ i. clients_in (keys_at (back i)) + cond (held_of (s.of_key i).client_id (keys_at (back i)) == 0) 1 0);
    }

pub length_left : (x : ℕ) (key : RequestKey) (es : List Entry) → IsLeft x key es → length (without key es) + 1 ≡ length es
length_left x key es left = omega (arith, left.sums (λ _. 1), length_sum es, length_sum (without key es))

pub held_left : (x : ℕ) (key : RequestKey) (es : List Entry) → IsLeft x key es → (client : List ℕ) → held_of client (keys_at (without key es)) + cond (bytes_eq key.client_id client) 1 0 ≡ held_of client (keys_at es)
held_left x key es left client =
    let here : ◌≡◌ {A = ℕ} (cond (bytes_eq (key_of left.entry.key).client_id client) 1 0) (cond (bytes_eq key.client_id client) 1 0) = ap (λ (k : RequestKey). cond (bytes_eq k.client_id client) 1 0) left.of_key in
    omega (arith, here, left.sums (λ (e : Entry). cond (bytes_eq (key_of e.key).client_id client) 1 0), held_sum client es, held_sum client (without key es))
