use Rattle.std.proofs.Common.{◌≡◌, ◌≤◌, ◌+◌, ◌++◌, [], ◌∷◌, Bool, true, false, not, nat_lt, cond, List, ℕ, length, bytes_eq, option_map, Some, refl, sym, ap, ◌∙◌, subst, arith}
use Rattle.std.proofs.lemmas.List.Sums.{sum_by_push}
use Rattle.std.specs.List.{sum_by}
use Rattle.std.proofs.lemmas.Slice.Eq.{bytes_eq-Decides}
use Rattle.indexmap.specs.IndexMap.{index_map_len}
use Rattle.ft_log.specs.Dues.{dues, places, under}
use Rattle.ft_log.specs.Keys.{RequestKey, are_distinct, clients_in, held_of, same_key}
use Rattle.ft_log.specs.Logged.{logged}
use Rattle.ft_log.specs.Maps.{Counts, due_at, held_at, is_countable}
use Rattle.ft_log.specs.Placed.{ArePlaced}
use Rattle.ft_log.specs.Places.{IsChanged}
use Rattle.ft_log.specs.Shelf.{at_key, has_room}
use Rattle.ft_log.specs.Tied.{AreDues, AreOutcomes, due_of, is_copied, is_free, is_ready, is_slotted}
use Rattle.ft_log.specs.View.{key_of}
use Rattle.ft_log.specs.declared.story.Entry.{Entry}
use Rattle.ft_log.specs.declared.due.Due.{Due}
use Rattle.ft_log.specs.declared.name.Name.{Name}
use Rattle.ft_log.specs.declared.shelf.Kept.{Kept}
use Rattle.ft_log.specs.declared.shelf.Shelf.{Shelf}
use Rattle.ft_log.proofs.Dated.{as_many}
use Rattle.ft_log.proofs.Entries.{clients-push, keys_at, length_push, outcome_for-push}
use Rattle.ft_log.proofs.Listed.{are_distinct-push, keys-push, length_keys, within_share-push}
use Rattle.ft_log.proofs.Placing.{placed-push}
use Rattle.ft_log.proofs.Ready.{IsReady, ready_at}
use Rattle.ft_log.proofs.Slots.{slim-with}
use Rattle.ft_log.proofs.Slotted.{free_parts, none_due, none_new, nothing_there, outcome_none, outcome_put, slot_here, slotted-change}
use Rattle.ft_log.proofs.store.Store.keep.Goals as goal
use Rattle.ft_log.proofs.store.Store.keep.Goals.{In-Some}

-- there is a place for the key
place : (c : In-Some) → let s = c.args.self.now in IsReady (key_of c.args.key) (keys_at s.story.entries) s.capacity s.share (places s.order) (is_free (nat_lt s.share s.capacity) s.kept s.counts)
unfolding logged
place c = let s = c.args.self.now in ready_at (option_map (λ r. key_of r.key.key) s.room) (key_of c.args.key) (keys_at s.story.entries) s.capacity s.share (places s.order) (is_free (nat_lt s.share s.capacity) s.kept s.counts) c.requires s.ready

-- the room is the key's
of_key : (c : In-Some) → key_of c.in-Some.room.key.key ≡ key_of c.args.key
unfolding logged
of_key c =
    let both : Some (key_of c.in-Some.room.key.key) ≡ Some (key_of c.args.key) = ap (option_map (λ r. key_of r.key.key)) (sym c.in-Some.is ∙ c.take.ensures.value) ∙ c.requires in
    cc

-- what is reserved for it
free : (c : In-Some) → let s = c.args.self.now in (has_room s.kept ≡ true) × (is_countable (nat_lt s.share s.capacity) s.counts ≡ true)
free c = let s = c.args.self.now in free_parts (nat_lt s.share s.capacity) s.kept s.counts (place c).fits

pub put-requires-clause-absent : goal.put-requires-clause-absent
put-requires-clause-absent c =
    let s = c.args.self.now in
    let key : RequestKey = key_of c.args.key in
    nothing_there (at_key s.kept key) (s.found key ∙ outcome_none key s.story.entries (place (goal.at.put-requires-clause-absent c).In-Some).new)

pub put-requires-clause-room : goal.put-requires-clause-room
put-requires-clause-room c = (free (goal.at.put-requires-clause-room c).In-Some).0

pub push-slot-requires : goal.push-slot-requires
push-slot-requires c =
    let s = c.args.self.now in
    let p = place (goal.at.push-slot-requires c).In-Some in
    omega (arith, p.place, as_many s.order s.story.entries s.dated, length_keys s.story.entries)

-- a client's octets are copied where clients are counted
copied_is : (c : In-Some) → nat_lt c.args.self.now.share c.args.self.now.capacity ≡ true → c.in-Some.room.client_id.items ≡ c.args.key.client_id.items
copied_is c t =
    let s = c.args.self.now in
    let there = ap is_copied (sym c.in-Some.is ∙ c.take.ensures.value) ∙ s.copied t in
    (bytes_eq-Decides c.in-Some.room.client_id.items c.in-Some.room.key.key.client_id.items).0 there ∙ ap (λ (k : RequestKey). k.client_id) (of_key c)

pub count_up_if-requires-clause-room : goal.count_up_if-requires-clause-room
unfolding logged
count_up_if-requires-clause-room c =
    let s = c.args.self.now in
    subst (λ (b : Bool). is_countable b s.counts ≡ true) (sym c.counts_clients-counts.ensures) (free (goal.at.count_up_if-requires-clause-room c).In-Some).1

pub count_up_if-requires-clause-fits : goal.count_up_if-requires-clause-fits
unfolding logged
count_up_if-requires-clause-fits c = λ t.
    let s = c.args.self.now in
    let inside = (goal.at.count_up_if-requires-clause-fits c).In-Some in
    let counted = sym c.counts_clients-counts.ensures ∙ t in
    let held = ap (held_at s.counts) (copied_is inside counted) ∙ s.counted counted c.args.key.client_id.items in
    omega (arith, held, (place inside).shared)

pub invariant_of-self-2 : goal.invariant_of-self-2
unfolding logged
invariant_of-self-2 c =
    let s = c.args.self.now in
    let inside = (goal.at.invariant_of-self-2 c).In-Some in
    let p = place inside in
    let es : List Entry = s.story.entries in
    let e : Entry = record { key = c.args.key; expiration = c.args.expiration; outcome = c.args.outcome } in
    let key : RequestKey = key_of c.args.key in
    let keys : List RequestKey = keys_at es in
    let n : Shelf = c.put.new.self in
    let counts : Counts = c.count_up_if.new.counts in
    let due : Due = record { until = record { 0 = c.args.expiration }; slot = c.push-slot.result; key = c.in-Some.room.key } in
    let is = sym c.with-self.ensures in
    let pushed = sym (keys-push es e) in
    let b : Bool = nat_lt s.share s.capacity in
    record {
      within = subst (λ (l : List Entry). length l ≤ s.capacity) is (omega (arith, p.within, length_keys es, length_push es e));
      distinct = subst (λ (l : List Entry). are_distinct (keys_at l) ≡ true) is (subst (λ (ks : List RequestKey). are_distinct ks ≡ true) pushed (are_distinct-push keys key s.distinct p.new));
      shared = subst (λ (l : List Entry). (client : List ℕ) → held_of client (keys_at l) ≤ s.share) is
          (subst (λ (ks : List RequestKey). (client : List ℕ) → held_of client ks ≤ s.share) pushed (within_share-push keys key s.share s.shared p.shared));
      found = subst (AreOutcomes n) is (λ k. ap (option_map (λ x. x.outcome)) (c.put.ensures.kept k) ∙ outcome_put (same_key k key) (record { slot = c.push-slot.result; until = c.args.expiration; outcome = c.args.outcome }) (at_key s.kept k)
          ∙ ap (cond (same_key k key) (Some c.args.outcome)) (s.found k) ∙ sym (outcome_for-push k es e p.new));
      listed = subst (λ (l : List Entry). (f : ℕ × RequestKey → ℕ) → sum_by (λ q. f (due_at q)) n.outcomes.entries ≡ sum_by (λ x. f (due_of x)) l) is
          (λ f. c.put.ensures.sums f ∙ ap (λ x. x + f (due_of e)) (s.listed f) ∙ sym (sum_by_push (λ x. f (due_of x)) es e));
      counted = subst (λ (l : List Entry). b ≡ true → (client : List ℕ) → held_at counts client ≡ held_of client (keys_at l)) is (λ t client.
          let more = ap (λ bytes. held_at s.counts client + cond (bytes_eq bytes client) 1 0) (copied_is inside t) in
          let all = ap (held_of client) (keys-push es e) ∙ sum_by_push (λ (k : RequestKey). cond (bytes_eq k.client_id client) 1 0) keys key in
          omega (arith, c.count_up_if.ensures.held (c.counts_clients-counts.ensures ∙ t) client, more, s.counted t client, all));
      slim = subst (λ (l : List Entry). index_map_len counts ≤ cond b (clients_in (keys_at l)) 0) is
          (slim-with b c.counts_clients-counts.result (held_at s.counts c.in-Some.room.client_id.items) (held_of key.client_id keys) (index_map_len s.counts) (index_map_len counts)
          (clients_in keys) (clients_in (keys_at (es ++ e ∷ []))) c.counts_clients-counts.ensures (λ t. ap (held_at s.counts) (copied_is inside t) ∙ s.counted t key.client_id) s.slim
          c.count_up_if.ensures.slots (clients-push es e));
      dated = subst (AreDues c.push-slot.new.self) is (λ f.
          let same : f (c.args.expiration, key_of c.in-Some.room.key.key) ≡ f (due_of e) = λ i. f (c.args.expiration, of_key inside i) in
          omega (arith, c.push-slot.ensures.sums (λ d. f (d.until.0, key_of d.key.key)), s.dated f, same, sum_by_push (λ x. f (due_of x)) es e));
      slotted =
          let none = slotted-change s.kept n key (dues s.order) (λ other differ. c.put.ensures.kept other ∙ (λ i. cond (differ i) (Some (record { slot = c.push-slot.result; until = c.args.expiration; outcome = c.args.outcome })) (at_key s.kept other)))
          s.slotted (none_due key s.order es s.dated (none_new key es p.new)) in
          let new : not (is_slotted n due) ≡ false = slot_here n (at_key s.kept key) due key (record { slot = c.push-slot.result; until = c.args.expiration; outcome = c.args.outcome }) (of_key inside) refl (c.put.ensures.kept key) in
          let zero : ◌≡◌ {A = ℕ} (cond (not (is_slotted n due)) 1 0) 0 = ap (λ x. cond x 1 0) new in
          omega (arith, c.push-slot.ensures.sums (λ d. cond (not (is_slotted n d)) 1 0), none, zero);
      placed =
          let last = c.put.ensures.last in
          subst (λ (l : List (Name × Kept)). ArePlaced l (under c.push-slot.new.self)) (sym last.is)
          (placed-push s.kept.outcomes.entries (last.name, record { slot = c.push-slot.result; until = c.args.expiration; outcome = c.args.outcome }) (under s.order) (under c.push-slot.new.self) s.placed c.push-slot.ensures.was
          (subst (λ n. IsChanged (under s.order) (under c.push-slot.new.self) c.push-slot.result (Some n)) c.len.ensures c.push-slot.ensures.places));
      copied = subst (λ r. b ≡ true → is_copied r ≡ true) (sym c.take.ensures.after) (λ t. refl);
      ready = subst (λ r. is_ready (option_map (λ r. key_of r.key.key) r) (keys_at c.with-self.result.entries) s.capacity s.share (places c.push-slot.new.self) (is_free b n counts) ≡ true) (sym c.take.ensures.after) refl;
    }
