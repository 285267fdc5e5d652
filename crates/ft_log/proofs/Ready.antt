-- What it says that room is made for a key.
use Rattle.std.proofs.Common.{◌≡◌, Bool, ℕ, ◌+◌, ◌<◌, ◌≤◌, true, false, not, nat_lt, List, length, Option, Some, None, refl, ap, sym, ◌∙◌, arith}
use Rattle.std.specs.List.{list_any}
use Rattle.std.proofs.lemmas.Bool.{and_parts, and_from, not_from_false, ltb-true, lt-ltb}
use Rattle.ft_log.specs.Keys.{RequestKey, held_of, same_key}
use Rattle.ft_log.specs.Tied.{is_ready}
use Rattle.ft_log.specs.Without.{without}
use Rattle.ft_log.specs.declared.story.Entry.{Entry}
use Rattle.ft_log.proofs.Entries.{keys_at, list_any-without}
use Rattle.ft_log.proofs.Listed.{false_from_not}

-- there is a place for a key that is none of these
pub record IsReady (key : RequestKey) (ks : List RequestKey) (capacity share places : ℕ) (free : Bool) : Type 0 where
  pub new : list_any (λ other. same_key key other) ks ≡ false
  pub within : length ks < capacity
  pub shared : held_of key.client_id ks < share
  pub place : length ks < places
  pub fits : free ≡ true

pub ready_from : (key : RequestKey) (ks : List RequestKey) (capacity share places : ℕ) (free : Bool) → IsReady key ks capacity share places free → is_ready (Some key) ks capacity share places free ≡ true
ready_from key ks capacity share places free r =
    and_from (not (list_any (λ other. same_key key other) ks)) _ (not_from_false _ r.new)
    (and_from (nat_lt (length ks) capacity) _ (lt-ltb _ _ r.within)
    (and_from (nat_lt (held_of key.client_id ks) share) _ (lt-ltb _ _ r.shared)
    (and_from (nat_lt (length ks) places) free (lt-ltb _ _ r.place) r.fits)))

pub ready_of : (key : RequestKey) (ks : List RequestKey) (capacity share places : ℕ) (free : Bool) → is_ready (Some key) ks capacity share places free ≡ true → IsReady key ks capacity share places free
ready_of key ks capacity share places free h =
    let a = and_parts (not (list_any (λ other. same_key key other) ks)) _ h in
    let b = and_parts (nat_lt (length ks) capacity) _ a.1 in
    let d = and_parts (nat_lt (held_of key.client_id ks) share) _ b.1 in
    let e = and_parts (nat_lt (length ks) places) free d.1 in
    record { new = false_from_not _ a.0; within = ltb-true _ _ b.0; shared = ltb-true _ _ d.0; place = ltb-true _ _ e.0; fits = e.1 }

-- what is known where room is made for this key
pub ready_at : (room : Option RequestKey) (key : RequestKey) (ks : List RequestKey) (capacity share places : ℕ) (free : Bool) → room ≡ Some key → is_ready room ks capacity share places free ≡ true → IsReady key ks capacity share places free
ready_at room key ks capacity share places free is h = ready_of key ks capacity share places free (sym (ap (λ r. is_ready r ks capacity share places free) is) ∙ h)

-- one entry less leaves the room
pub ready-without : (room : Option RequestKey) (key : RequestKey) (es : List Entry) (capacity share places places' : ℕ) (free free' : Bool) → (free ≡ true → free' ≡ true)
    → ((client : List ℕ) → held_of client (keys_at (without key es)) ≤ held_of client (keys_at es)) → length (keys_at (without key es)) + 1 ≡ length (keys_at es) → places ≤ places' + 1
    → is_ready room (keys_at es) capacity share places free ≡ true → is_ready room (keys_at (without key es)) capacity share places' free' ≡ true
ready-without None key es capacity share places places' free free' more held fewer room h = refl
ready-without (Some k) key es capacity share places places' free free' more held fewer room h =
    let r = ready_of k (keys_at es) capacity share places free h in
    ready_from k (keys_at (without key es)) capacity share places' free' (record {
      new = list_any-without (λ other. same_key k other) key es r.new;
      within = omega (arith, r.within, fewer);
      shared = omega (arith, r.shared, held k.client_id);
      place = omega (arith, r.place, fewer, room);
      fits = more r.fits;
    })
