-- Lists of keys and of kept outcomes: what is left after forgetting, and what one more adds.
use Rattle.std.proofs.Common.{◌≡◌, ℕ, ◌+◌, ◌<◌, ◌≤◌, Bool, true, false, not, ◌||◌, cond, List, [], ◌∷◌, ◌++◌, length, bytes_eq, Some, None, Result, Ok, Err, IsErrAnd, refl, sym, ap, ◌∙◌, subst, arith}
use Rattle.std.specs.List.{list_any}
use Rattle.std.proofs.lemmas.Bool.{and_parts, and_from, or_parts, or_from, not_from_false, cond-true, cond-false}
use Rattle.std.proofs.lemmas.Bool.Decides.{Decides-int_eq}
use Rattle.std.specs.Ordering.{int_eq}
use Rattle.std.proofs.lemmas.List.{map-append, length-map}
use Rattle.std.proofs.lemmas.List.Folds.{list_any-append}
use Rattle.std.proofs.lemmas.List.Sums.{sum_by_push}
use Rattle.std.proofs.lemmas.Slice.Eq.{bytes_eq-Decides}
use Rattle.ft_log.specs.Keys.{RequestKey, are_distinct, held_of, same_key}
use Rattle.ft_log.specs.Kept.{KeptOutcome, keys_of, kept_for}
use Rattle.ft_log.specs.View.{entries_at, entry_in, key_of}
use Rattle.ft_log.specs.declared.story.Entry.{Entry}
use Rattle.ft_log.specs.declared.error.LogError.{LogError}
use Rattle.ft_log.specs.declared.error.LogError.TheVariants.{Memory, ShareFull}

pub false_from_not : (b : Bool) → not b ≡ true → b ≡ false
false_from_not true h = cc
false_from_not false h = refl

-- a key without an outcome is that of no entry
pub none_kept : {O : Type 0} (key : RequestKey) (es : List (KeptOutcome O)) → kept_for key es ≡ None → list_any (λ other. same_key key other) (keys_of es) ≡ false
none_kept key [] h = refl
none_kept {O} key (e ∷ es) h =
    elim (same_key key e.key) as (λ b. cond b (Some e.outcome) (kept_for key es) ≡ None → (b || list_any (λ other. same_key key other) (keys_of es)) ≡ false)
    [ true ↦ λ k. cc | false ↦ λ k. none_kept key es k ] h

-- one more key, which none of the others is
pub are_distinct-push : (ks : List RequestKey) (k : RequestKey) → are_distinct ks ≡ true → list_any (λ other. same_key k other) ks ≡ false → are_distinct (ks ++ k ∷ []) ≡ true
are_distinct-push [] k h none = refl
are_distinct-push (x ∷ xs) k h none =
    let p : RequestKey → Bool = λ later. same_key later x in
    let parts = and_parts (not (list_any p xs)) (are_distinct xs) h in
    let others = or_parts (same_key k x) (list_any (λ other. same_key k other) xs) none in
    let new : list_any p (xs ++ k ∷ []) ≡ false =
    list_any-append p xs (k ∷ []) ∙ or_from (list_any p xs) (p k || false) (false_from_not _ parts.0) (or_from (p k) false others.0 refl) in
    and_from (not (list_any p (xs ++ k ∷ []))) (are_distinct (xs ++ k ∷ [])) (not_from_false _ new) (are_distinct-push xs k parts.1 others.1)

-- one more key, of a client that has fewer than its share
pub within_share-push : (ks : List RequestKey) (k : RequestKey) (share : ℕ) → ((client : List ℕ) → held_of client ks ≤ share) → held_of k.client_id ks < share
    → (client : List ℕ) → held_of client (ks ++ k ∷ []) ≤ share
within_share-push ks k share all room client =
    let f : RequestKey → ℕ = λ x. cond (bytes_eq x.client_id client) 1 0 in
    let more = sum_by_push f ks k in
    let below = all client in
    let here : bytes_eq k.client_id client ≡ true → held_of client ks < share = λ e. subst (λ c. held_of c ks < share) ((bytes_eq-Decides k.client_id client).0 e) room in
    let step : cond (bytes_eq k.client_id client) 1 0 + held_of client ks ≤ share =
    elim (bytes_eq k.client_id client) as (λ b. (b ≡ true → held_of client ks < share) → cond b 1 0 + held_of client ks ≤ share)
    [ true ↦ λ h. omega (arith, h refl) | false ↦ λ h. omega (arith, below) ] here in
    omega (arith, more, step)

-- the keys of the entries of the code, with one more
pub keys-push : (es : List Entry) (e : Entry) → keys_of (entries_at (es ++ e ∷ [])) ≡ keys_of (entries_at es) ++ key_of e.key ∷ []
keys-push es e = ap keys_of (map-append entry_in es (e ∷ [])) ∙ map-append (λ x. x.key) (entries_at es) (entry_in e ∷ [])

-- an entry has one key
pub length_keys : (es : List Entry) → length (keys_of (entries_at es)) ≡ length es
length_keys es = length-map (entries_at es) (λ x. x.key) ∙ length-map es entry_in

-- an error that is out of memory is no other
pub other_error : {A : Type 0} (r : Result (Unit {0}) LogError) → IsErrAnd r (λ e. e ≡ Memory) → r ≡ Err ShareFull → A
other_error (Ok u) h e = absurd h
other_error (Err x) h e = absurd (let same : Memory ≡ ShareFull = cc in cc)

pub itself : (a : RequestKey) → same_key a a ≡ true
itself a = and_from _ _ ((bytes_eq-Decides a.client_id a.client_id).1 refl) ((Decides-int_eq a.retention_id a.retention_id).1 refl)

pub same_is : (a b : RequestKey) → same_key a b ≡ true → a ≡ b
same_is a b h =
    let parts = and_parts (bytes_eq a.client_id b.client_id) (int_eq a.retention_id b.retention_id) h in
    let client = (bytes_eq-Decides a.client_id b.client_id).0 parts.0 in
    let number = (Decides-int_eq a.retention_id b.retention_id).0 parts.1 in
    λ i. record { client_id = client i; retention_id = number i }

-- of distinct keys a later one is not the first
not_first : (between rest : List RequestKey) (a b : RequestKey) → are_distinct (a ∷ between ++ b ∷ rest) ≡ true → same_key b a ≡ false
not_first between rest a b h =
    let p : RequestKey → Bool = λ later. same_key later a in
    let parts = and_parts (not (list_any p (between ++ b ∷ rest))) (are_distinct (between ++ b ∷ rest)) h in
    let none = sym (list_any-append p between (b ∷ rest)) ∙ false_from_not _ parts.0 in
    let later = or_parts (list_any p between) (p b || list_any p rest) none in
    (or_parts (p b) (list_any p rest) later.1).0

pub differ : (front between rest : List RequestKey) (a b : RequestKey) → are_distinct (front ++ a ∷ between ++ b ∷ rest) ≡ true → same_key b a ≡ false
differ [] between rest a b h = not_first between rest a b h
differ (x ∷ xs) between rest a b h =
    let p : RequestKey → Bool = λ later. same_key later x in
    let all : List RequestKey = xs ++ a ∷ between ++ b ∷ rest in
    differ xs between rest a b (and_parts (not (list_any p all)) (are_distinct all) h).1

-- where keys are distinct, each entry is found by its key
pub found : {O : Type 0} (front rest : List (KeptOutcome O)) (e : KeptOutcome O) → are_distinct (keys_of (front ++ e ∷ rest)) ≡ true → kept_for e.key (front ++ e ∷ rest) ≡ Some e.outcome
found [] rest e h = cond-true (same_key e.key e.key) (Some e.outcome) (kept_for e.key rest) (itself e.key)
found {O} (x ∷ xs) rest e h =
    let p : RequestKey → Bool = λ later. same_key later x.key in
    let all : List (KeptOutcome O) = xs ++ e ∷ rest in
    let parts = and_parts (not (list_any p (keys_of all))) (are_distinct (keys_of all)) h in
    let split = map-append (λ (k : KeptOutcome O). k.key) xs (e ∷ rest) in
    let none = sym (list_any-append p (keys_of xs) (keys_of (e ∷ rest))) ∙ sym (ap (list_any p) split) ∙ false_from_not _ parts.0 in
    let later = or_parts (list_any p (keys_of xs)) (p e.key || list_any p (keys_of rest)) none in
    let other = (or_parts (p e.key) (list_any p (keys_of rest)) later.1).0 in
    cond-false (same_key e.key x.key) (Some x.outcome) (kept_for e.key all) other ∙ found xs rest e parts.1

-- an entry of the list with this key and this outcome
pub record IsEntry {O : Type 0} (key : RequestKey) (entries : List (KeptOutcome O)) (o : O) : Type 0 where
  pub front : List (KeptOutcome O)
  pub rest : List (KeptOutcome O)
  pub entry : KeptOutcome O
  pub is : entries ≡ front ++ entry ∷ rest
  pub has_key : entry.key ≡ key
  pub has_outcome : entry.outcome ≡ o

pub entry_found : {O : Type 0} (key : RequestKey) (entries : List (KeptOutcome O)) (o : O) → kept_for key entries ≡ Some o → IsEntry key entries o
entry_found key [] o h = absurd (let none : None ≡ Some o = h in cc)
entry_found {O} key (x ∷ xs) o h =
    let here : (b : Bool) → same_key key x.key ≡ b → cond b (Some x.outcome) (kept_for key xs) ≡ Some o → IsEntry key (x ∷ xs) o = λ b.
    elim b as (λ b. same_key key x.key ≡ b → cond b (Some x.outcome) (kept_for key xs) ≡ Some o → IsEntry key (x ∷ xs) o) [
      | true ↦ λ e k. record { front = []; rest = xs; entry = x; is = refl; has_key = sym (same_is key x.key e); has_outcome = cc }
      | false ↦ λ e k. let later = entry_found key xs o k in record { front = x ∷ later.front; rest = later.rest; entry = later.entry; is = ap (λ l. x ∷ l) later.is; has_key = later.has_key; has_outcome = later.has_outcome }
    ] in
    here (same_key key x.key) refl h
