-- How many entries a client has, of those that are live and of the others, and without one of them.
use Rattle.std.proofs.Common.{◌≡◌, ℕ, ◌+◌, ◌≤◌, Bool, true, false, not, nat_le, nat_lt, cond, bytes_eq, List, [], ◌∷◌, filter, sym, true≢false, arith}
use Rattle.std.proofs.lemmas.List.Sums.{sum_by-cons}
use Rattle.ft_log.specs.Holding.{Holding}
use Rattle.ft_log.specs.Keys.{RequestKey, held_of, same_key}
use Rattle.ft_log.specs.Kept.{KeptOutcome, keys_of, unexpired}
use Rattle.ft_log.specs.Store.{expired}
use Rattle.ft_log.specs.View.{entries_at, entry_in, key_of}
use Rattle.ft_log.specs.Without.{without}
use Rattle.ft_log.specs.declared.story.Entry.{Entry}
use Rattle.ft_log.proofs.Entries.{keys_at}
use Rattle.ft_log.proofs.Seen.{other}

-- one more counts where it is the client's
counted : (client : List ℕ) (e : Entry) (es : List Entry) → held_of client (keys_at (e ∷ es)) ≡ cond (bytes_eq (key_of e.key).client_id client) 1 0 + held_of client (keys_at es)
counted client e es = sum_by-cons (λ (k : RequestKey). cond (bytes_eq k.client_id client) 1 0) (key_of e.key) (keys_at es)

filter_held : (client : List ℕ) (p : Entry → Bool) (es : List Entry) → held_of client (keys_at (filter p es)) ≤ held_of client (keys_at es)
filter_held client p [] = omega arith
filter_held client p (e ∷ es) =
    let more = filter_held client p es in
    let all = counted client e es in
    let left = counted client e (filter p es) in
    elim (p e) as (λ b. held_of client (keys_at (cond b (e ∷ filter p es) (filter p es))) ≤ held_of client (keys_at (e ∷ es))) [ true ↦ omega (arith, more, all, left) | false ↦ omega (arith, more, all) ]

pub held-without : (client : List ℕ) (key : RequestKey) (es : List Entry) → held_of client (keys_at (without key es)) ≤ held_of client (keys_at es)
held-without client key es = filter_held client (λ e. not (same_key key (key_of e.key))) es

-- what is a client's is live, or among the others
pub held-both : (client : List ℕ) (now : ℕ) (es : List Entry) → held_of client (keys_of (unexpired now (entries_at es))) + held_of client (keys_at (expired now es)) ≡ held_of client (keys_at es)
held-both client now [] = omega arith
held-both client now (e ∷ es) = by (nat_le now e.expiration) (nat_lt e.expiration now) (other now e.expiration) (held-both client now es)
  where
    live : List (KeptOutcome Holding)
    live = unexpired now (entries_at es)

    one : held_of client (keys_of (entry_in e ∷ live)) ≡ cond (bytes_eq (key_of e.key).client_id client) 1 0 + held_of client (keys_of live)
    one = sum_by-cons (λ (k : RequestKey). cond (bytes_eq k.client_id client) 1 0) (key_of e.key) (keys_of live)

    by : (a b : Bool) → b ≡ not a → held_of client (keys_of live) + held_of client (keys_at (expired now es)) ≡ held_of client (keys_at es)
        → held_of client (keys_of (cond a (entry_in e ∷ live) live)) + held_of client (keys_at (cond b (e ∷ expired now es) (expired now es))) ≡ held_of client (keys_at (e ∷ es))
    by true true t more = absurd (true≢false t)
    by true false t more = omega (arith, more, one, counted client e es)
    by false true t more = omega (arith, more, counted client e es, counted client e (expired now es))
    by false false t more = absurd (true≢false (sym t))
