use Rattle.std.proofs.Common.{◌≡◌, ◌≤◌, ◌+◌, Bool, true, not, nat_lt, cond, List, ℕ, length, bytes_eq, None, is_some, Option, option_map, refl, sym, ap, ◌∙◌, subst, arith}
use Rattle.std.proofs.lemmas.List.{length-map}
use Rattle.std.proofs.lemmas.Option.{slice_get_within}
use Rattle.std.proofs.lemmas.Slice.Eq.{bytes_eq-Decides}
use Rattle.std.specs.List.{count_by, sum_by}
use Rattle.indexmap.specs.IndexMap.{index_map_len}
use Rattle.ft_log.specs.Dues.{dues, places, under}
use Rattle.ft_log.specs.Keys.{RequestKey, are_distinct, clients_in, held_of, same_key}
use Rattle.ft_log.specs.Logged.{logged}
use Rattle.ft_log.specs.Maps.{Counts, due_at, held_at}
use Rattle.ft_log.specs.Places.{IsMoved}
use Rattle.ft_log.specs.Shelf.{at_key, until_in}
use Rattle.ft_log.specs.Tied.{AreDues, AreOutcomes, due_of, is_free, is_ready, is_slotted}
use Rattle.ft_log.specs.View.{key_of}
use Rattle.ft_log.specs.Without.{without}
use Rattle.ft_log.specs.declared.story.Entry.{Entry}
use Rattle.ft_log.specs.declared.order.Order.{Order}
use Rattle.ft_log.specs.declared.shelf.Shelf.{Shelf}
use Rattle.ft_log.proofs.Dated.{dues_left, left_of}
use Rattle.ft_log.proofs.Entries.{IsLeft, are_distinct-without, held_left, keys_at, length_left, outcome_for-without}
use Rattle.ft_log.proofs.Moved.{dated_in}
use Rattle.ft_log.proofs.Placing.{at_place, moved_has, placed-take}
use Rattle.ft_log.proofs.Ready.{ready-without}
use Rattle.ft_log.proofs.Slots.{slim-without}
use Rattle.ft_log.proofs.Slotted.{countable_stays, due_there, entry_there, free_from, free_parts, kept_where, none_due, none_left, outcome_taken, slotted-change}
use Rattle.ft_log.proofs.Timed.{same_until}
use Rattle.ft_log.proofs.store.Store.take_out.Goals as goal
use Rattle.ft_log.proofs.store.Store.take_out.Goals.{After-withdraw}

pub take-client_id-requires : goal.take-client_id-requires
take-client_id-requires c =
    let s = c.args.self.now in
    at_place (key_of c.args.spot.key.key) c.args.spot.slot c.args.spot.place s.kept.outcomes.entries (under s.order) s.placed c.requires.slot c.requires.place

pub withdraw-requires-clause-place : goal.withdraw-requires-clause-place
withdraw-requires-clause-place c = ap is_some c.requires.place

pub withdraw-requires-clause-there : goal.withdraw-requires-clause-there
withdraw-requires-clause-there c =
    let s = c.args.self.now in
    let key : RequestKey = key_of c.args.spot.key.key in
    let kept = kept_where (at_key s.kept key) c.args.spot.slot c.requires.slot in
    let entry = entry_there key s.story.entries kept.0 (sym (s.found key) ∙ kept.1) in
    let same = s.dated (λ p. cond (same_key p.1 key) 1 0) in
    omega (arith, entry, same, due_there s.kept key c.args.spot.slot (dues s.order) c.requires.slot s.slotted)

-- the entry that goes is one of them
left : (c : After-withdraw) → let s = c.args.self.now in let out = c.withdraw.ensures.out in IsLeft out.due.until.0 (key_of c.args.spot.key.key) s.story.entries
left c =
    let s = c.args.self.now in
    let out = c.withdraw.ensures.out in
    subst (λ (k : RequestKey). IsLeft out.due.until.0 k s.story.entries) out.of_key (left_of s.order s.story.entries s.dated c.withdraw.new.self out.due out.sums s.distinct)

pub move_to-requires : goal.move_to-requires
move_to-requires c = λ slot is.
    let s = c.args.self.now in
    let taken = c.take-client_id.ensures.taken in
    moved_has s.kept.outcomes.entries c.take-client_id.new.self.outcomes.entries c.args.spot.place c.args.spot.slot taken.was (under s.order) (under c.withdraw.new.self) s.placed c.requires.place
    (slice_get_within s.kept.outcomes.entries c.args.spot.place taken.was taken.there) taken.is c.withdraw.ensures.places slot (sym c.slot_in.ensures ∙ is)

pub count_down_if-requires : goal.count_down_if-requires
unfolding logged
count_down_if-requires c = λ t.
    let s = c.args.self.now in
    let key : RequestKey = key_of c.args.spot.key.key in
    let client : List ℕ = key.client_id in
    let inside = (goal.at.count_down_if-requires c).After-withdraw in
    let l = left inside in
    let here : ◌≡◌ {A = ℕ} (cond (bytes_eq client client) 1 0) 1 = ap (λ b. cond b 1 0) ((bytes_eq-Decides client client).1 refl) in
    let is : held_at s.counts c.as_slice.result.now ≡ held_of client (keys_at s.story.entries) = ap (held_at s.counts) (c.as_slice.ensures.value ∙ c.take-client_id.ensures.client) ∙ s.counted (sym c.counts_clients-counts.ensures ∙ t) client in
    omega (arith, is, here, held_left c.withdraw.ensures.out.due.until.0 key s.story.entries l client)

pub invariant_of-self : goal.invariant_of-self
unfolding logged
invariant_of-self c =
    let s = c.args.self.now in
    let out = c.withdraw.ensures.out in
    let key : RequestKey = key_of c.args.spot.key.key in
    let x : ℕ = out.due.until.0 in
    let es : List Entry = s.story.entries in
    let inside = (goal.at.invariant_of-self c).After-withdraw in
    let l = left inside in
    let is = sym c.without-self.ensures in
    let n : Shelf = c.take-client_id.new.self in
    let o : Order = c.withdraw.new.self in
    let m : Order = c.move_to.new.self in
    let taken = c.take-client_id.ensures.taken in
    let counts : Counts = c.count_down_if.new.counts in
    let b : Bool = nat_lt s.share s.capacity in
    let client_is = c.as_slice.ensures.value ∙ c.take-client_id.ensures.client in
    let held : (client : List ℕ) → held_of client (keys_at (without key es)) ≤ held_of client (keys_at es) = λ client. omega (arith, held_left x key es l client) in
    let fewer = length_left x key es l in
    let here : ◌≡◌ {A = ℕ} (cond (bytes_eq key.client_id key.client_id) 1 0) 1 = ap (λ b. cond b 1 0) ((bytes_eq-Decides key.client_id key.client_id).1 refl) in
    let had : b ≡ true → held_at s.counts c.as_slice.result.now ≡ held_of key.client_id (keys_at es) = λ t. ap (held_at s.counts) client_is ∙ s.counted t key.client_id in
    let shorter : length (keys_at (without key es)) + 1 ≡ length (keys_at es) = simp length-map (omega (arith, fewer)) in
    let until : until_in c.args.spot.place s.kept ≡ x = same_until (until_in c.args.spot.place s.kept) x key es s.kept.outcomes.entries n.outcomes.entries l c.take-client_id.ensures.sums s.listed in
    let own : IsLeft x (key_of out.due.key.key) es = subst (λ (k : RequestKey). IsLeft x k es) (sym out.of_key) l in
    let dated : AreDues o (without key es) = subst (λ (k : RequestKey). AreDues o (without k es)) out.of_key (dues_left s.order es s.dated o out.due out.sums own) in
    let before : count_by (λ d. not (is_slotted s.kept d)) (dues o) ≡ 0 = omega (arith, out.sums (λ d. cond (not (is_slotted s.kept d)) 1 0), s.slotted) in
    let stays : is_free b s.kept s.counts ≡ true → is_free b n counts ≡ true = λ f.
    let parts = free_parts b s.kept s.counts f in
    free_from b n counts (c.take-client_id.ensures.room parts.0) (countable_stays b s.counts counts c.count_down_if.ensures.room parts.1) in
    record {
      within = subst (λ (l : List Entry). length l ≤ s.capacity) is (omega (arith, fewer, s.within));
      distinct = subst (λ (l : List Entry). are_distinct (keys_at l) ≡ true) is (are_distinct-without key es s.distinct);
      shared = subst (λ (l : List Entry). (client : List ℕ) → held_of client (keys_at l) ≤ s.share) is (λ client. omega (arith, held client, s.shared client));
      found = subst (AreOutcomes n) is (λ k. ap (option_map (λ x. x.outcome)) (c.take-client_id.ensures.kept k) ∙ outcome_taken (same_key k key) (at_key s.kept k)
          ∙ ap (cond (same_key k key) None) (s.found k) ∙ sym (outcome_for-without key k es));
      listed = subst (λ (l : List Entry). (f : ℕ × RequestKey → ℕ) → sum_by (λ q. f (due_at q)) n.outcomes.entries ≡ sum_by (λ e. f (due_of e)) l) is (λ f.
          let entry : f (due_of l.entry) ≡ f (x, key) = λ i. f (l.until i, l.of_key i) in
          let same : f (until_in c.args.spot.place s.kept, key) ≡ f (x, key) = λ i. f (until i, key) in
          omega (arith, c.take-client_id.ensures.sums f, s.listed f, entry, same, l.sums (λ (e : Entry). f (due_of e))));
      counted = subst (λ (l : List Entry). b ≡ true → (client : List ℕ) → held_at counts client ≡ held_of client (keys_at l)) is (λ t client.
          let less = ap (λ bytes. held_at counts client + cond (bytes_eq bytes client) 1 0) (sym client_is) ∙ c.count_down_if.ensures.held (c.counts_clients-counts.ensures ∙ t) client in
          omega (arith, less, s.counted t client, held_left x key es l client));
      slim = subst (λ (l : List Entry). index_map_len counts ≤ cond b (clients_in (keys_at l)) 0) is
          (slim-without b c.counts_clients-counts.result (held_at s.counts c.as_slice.result.now) (held_of key.client_id (keys_at es)) (held_of key.client_id (keys_at (without key es)))
          (index_map_len s.counts) (index_map_len counts) (clients_in (keys_at es)) (clients_in (keys_at (without key es))) c.counts_clients-counts.ensures had s.slim c.count_down_if.ensures.slots
          (omega (arith, here, held_left x key es l key.client_id)) l.clients);
      dated = subst (AreDues m) is (dated_in o m (without key es) c.move_to.ensures.dues dated);
      slotted = ap (λ (l : List _). count_by (λ d. not (is_slotted n d)) l) c.move_to.ensures.dues
          ∙ slotted-change s.kept n key (dues o) (λ other differ. c.take-client_id.ensures.kept other ∙ (λ i. cond (differ i) None (at_key s.kept other))) before (none_due key o (without key es) dated (none_left key es));
      placed = placed-take s.kept.outcomes.entries n.outcomes.entries c.args.spot.place c.args.spot.slot taken.was (under s.order) (under o) (under m) s.placed c.requires.place
          (slice_get_within s.kept.outcomes.entries c.args.spot.place taken.was taken.there) taken.is c.withdraw.ensures.places (subst (λ (q : Option ℕ). IsMoved q c.args.spot.place (under o) (under m)) c.slot_in.ensures c.move_to.ensures.places);
      copied = s.copied;
      ready = subst (λ (l : List Entry). is_ready (option_map (λ r. key_of r.key.key) s.room) (keys_at l) s.capacity s.share (places m) (is_free b n counts) ≡ true) is
          (ready-without (option_map (λ r. key_of r.key.key) s.room) key es s.capacity s.share (places s.order) (places m) (is_free b s.kept s.counts) (is_free b n counts) stays held shorter
          (omega (arith, c.withdraw.ensures.room, c.move_to.ensures.room)) s.ready);
    }
