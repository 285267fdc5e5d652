use Rattle.std.proofs.Common.{◌<◌, ◌≡◌, ◌∙◌, Bool, true, not, bytes_eq, nat_lt, List, ℕ, ap, sym, subst, Some, length, slice_get, arith}
use Rattle.std.proofs.lemmas.List.{length-map}
use Rattle.std.specs.List.{count_by}
use Rattle.ft_log.specs.Dues.{places}
use Rattle.ft_log.specs.Keys.{RequestKey, held_of}
use Rattle.ft_log.specs.Logged.{logged}
use Rattle.ft_log.specs.Maps.{Counts, is_countable}
use Rattle.ft_log.specs.Tied.{is_free, is_ready}
use Rattle.ft_log.specs.View.{entries_at, entry_in, key_of}
use Rattle.ft_log.specs.declared.story.Entry.{Entry}
use Rattle.ft_log.specs.declared.shelf.Shelf.{Shelf}
use Rattle.ft_log.proofs.Dated.{as_many}
use Rattle.ft_log.proofs.Entries.{keys_at}
use Rattle.ft_log.proofs.Listed.{none_kept, length_keys, other_error}
use Rattle.ft_log.proofs.Ready.{IsReady, ready_from}
use Rattle.ft_log.proofs.Moved.{counted_in, dated_in, found_in, listed_in, slotted_in}
use Rattle.ft_log.proofs.Slotted.{free_from}
use Rattle.ft_log.proofs.store.Store.make_room.Goals as goal

-- the client of a key has fewer than its share
below : {client : List ℕ} {slice : List ℕ} {share : ℕ} (es : List Entry) → slice ≡ client → held_of slice (keys_at es) < share → held_of client (keys_at es) < share
below {client} {slice} {share} es is h = subst (λ (x : List ℕ). held_of x (keys_at es) < share) is h

pub returns-in_err-room-clause-share_full : goal.returns-in_err-room-clause-share_full
unfolding logged
returns-in_err-room-clause-share_full c =
    (other_error c.from_residual.result c.from_residual.ensures.1, λ h. absurd (omega (arith, h.1, below c.args.self.now.story.entries c.deref.ensures.value (c.is_share_full.ensures.no c.if-is_share_full.false))))

pub returns-in_err-reserve-clause-share_full : goal.returns-in_err-reserve-clause-share_full
unfolding logged
returns-in_err-reserve-clause-share_full c =
    (other_error c.from_residual-in_err-reserve.result c.from_residual-in_err-reserve.ensures.1, λ h. absurd (omega (arith, h.1, below c.args.self.now.story.entries c.deref.ensures.value (c.is_share_full.ensures.no c.if-is_share_full.false))))

pub returns-in_err-reserve-2-clause-share_full : goal.returns-in_err-reserve-2-clause-share_full
unfolding logged
returns-in_err-reserve-2-clause-share_full c =
    (other_error c.from_residual-in_err-reserve-2.result c.from_residual-in_err-reserve-2.ensures.1, λ h. absurd (omega (arith, h.1, below c.args.self.now.story.entries c.deref.ensures.value (c.is_share_full.ensures.no c.if-is_share_full.false))))

pub returns-in_err-reserve_if-clause-share_full : goal.returns-in_err-reserve_if-clause-share_full
unfolding logged
returns-in_err-reserve_if-clause-share_full c =
    (other_error c.from_residual-in_err-reserve_if.result c.from_residual-in_err-reserve_if.ensures.1, λ h. absurd (omega (arith, h.1, below c.args.self.now.story.entries c.deref.ensures.value (c.is_share_full.ensures.no c.if-is_share_full.false))))

pub returns-clause-share_full : goal.returns-clause-share_full
unfolding logged
returns-clause-share_full c =
    (λ e. cc, λ h. absurd (omega (arith, h.1, below c.args.self.now.story.entries c.deref.ensures.value (c.is_share_full.ensures.no c.if-is_share_full.false))))

pub invariant_of-self-2 : goal.invariant_of-self-2
unfolding logged
invariant_of-self-2 c =
    let s = c.args.self.now in
    let key : RequestKey = key_of c.args.key.now in
    let es : List Entry = s.story.entries in
    let old : List RequestKey = keys_at es in
    let b : Bool = nat_lt s.share s.capacity in
    let counts_is = c.counts_clients-counts.ensures in
    let n : Shelf = c.reserve-2.new.self in
    let counts : Counts = c.reserve_if.new.counts in
    let fewer : length es < s.capacity = omega (arith, c.if-len-self.false, c.len.ensures.length, length-map es entry_in, s.within) in
    let countable = subst (λ (x : Bool). is_countable x counts ≡ true) counts_is c.in_ok-reserve_if.ensures.ok in
    let place : IsReady key old s.capacity s.share (places c.reserve.new.self) (is_free b n counts) = record {
      new = none_kept key (entries_at es) c.requires;
      within = omega (arith, length_keys es, fewer);
      shared = below es c.deref.ensures.value (c.is_share_full.ensures.no c.if-is_share_full.false);
      place = omega (arith, length_keys es, as_many s.order es s.dated, ap (λ l. length l) c.reserve.ensures.same, c.in_ok-reserve.ensures.ok);
      fits = free_from b n counts c.in_ok-reserve-2.ensures.ok countable;
    } in
    record {
      within = s.within;
      distinct = s.distinct;
      shared = s.shared;
      found = found_in s.kept n c.reserve-2.ensures.same es s.found;
      listed = listed_in s.kept n c.reserve-2.ensures.same es s.listed;
      counted = λ t. counted_in s.counts counts old c.reserve_if.ensures.same (s.counted t);
      slim = omega (arith, s.slim, ap (λ l. length l) c.reserve_if.ensures.same);
      dated = dated_in s.order c.reserve.new.self es c.reserve.ensures.same s.dated;
      slotted = (λ i. count_by (λ d. not (slotted_in s.kept n c.reserve-2.ensures.same d i)) (c.reserve.ensures.same i)) ∙ s.slotted;
      placed = λ x p h. c.reserve.ensures.places p.1.slot ∙ s.placed x p (ap (λ l. slice_get l x) (sym c.reserve-2.ensures.same) ∙ h);
      copied = λ t. subst (λ (x : List ℕ). bytes_eq c.in_ok-room.room.client_id.items x ≡ true) (sym (ap (λ (k : RequestKey). k.client_id) c.in_ok-room.ensures.key)) (c.in_ok-room.ensures.client (counts_is ∙ t));
      ready = subst (λ (k : RequestKey). is_ready (Some k) old s.capacity s.share (places c.reserve.new.self) (is_free b n counts) ≡ true) (sym c.in_ok-room.ensures.key)
          (ready_from key old s.capacity s.share (places c.reserve.new.self) (is_free b n counts) place);
    }
