use Rattle.std.proofs.Common.{◌≡◌, List, ℕ, cond, bytes_eq, length, ap, ◌∙◌, arith}
use Rattle.std.proofs.lemmas.List.{length-map}
use Rattle.std.proofs.lemmas.Slice.Eq.{bytes_eq-Decides}
use Rattle.ft_log.specs.Dues.{under}
use Rattle.ft_log.specs.Keys.{held_of}
use Rattle.ft_log.specs.Kept.{kept_for, unexpired}
use Rattle.ft_log.specs.Logged.{logged}
use Rattle.ft_log.specs.View.{entries_at, entry_in, key_of}
use Rattle.ft_log.specs.Without.{without}
use Rattle.ft_log.specs.declared.story.Entry.{Entry}
use Rattle.ft_log.proofs.Entries.{IsLeft, held_left, keys_at, length_left, without_few}
use Rattle.ft_log.proofs.Lapsed.{held_live, left_stale, slot_stale}
use Rattle.ft_log.proofs.Sought.{kept_for-still}
use Rattle.ft_log.proofs.store.Store.forget_one_of.Goals as goal
use Rattle.ft_log.proofs.store.Store.forget_one_of.Goals.{In-Some}

-- the entry that goes is one of them
left : (c : In-Some) → IsLeft c.in-Some.ensures.stale.kept.until (key_of c.in-Some.spot.key.key) c.args.self.now.story.entries
left c =
    let s = c.args.self.now in
    left_stale s.kept s.story.entries s.listed s.distinct c.args.now c.args.client_id.now c.in-Some.spot c.in-Some.ensures.stale

pub take_out-requires-clause-slot : goal.take_out-requires-clause-slot
take_out-requires-clause-slot c =
    let s = c.args.self.now in
    slot_stale s.kept s.story.entries s.listed s.distinct c.args.now c.args.client_id.now c.in-Some.spot c.in-Some.ensures.stale s.found

pub take_out-requires-clause-place : goal.take_out-requires-clause-place
take_out-requires-clause-place c =
    let s = c.args.self.now in
    let stale = c.in-Some.ensures.stale in
    ap (under s.order) stale.slot ∙ s.placed c.in-Some.spot.place (stale.name, stale.kept) stale.there

pub returns-in-Some-clause-same : goal.returns-in-Some-clause-same
unfolding logged
returns-in-Some-clause-same c =
    let l = left (goal.at.returns-in-Some-clause-same c).In-Some in
    ap (λ (l : List Entry). unexpired c.args.now (entries_at l)) c.take_out.ensures.entries ∙ l.same c.args.now c.in-Some.ensures.stale.before

pub returns-in-Some-clause-absent : goal.returns-in-Some-clause-absent
unfolding logged
returns-in-Some-clause-absent c = λ key h.
    ap (λ (l : List Entry). kept_for key (entries_at l)) c.take_out.ensures.entries ∙ kept_for-still key (key_of c.in-Some.spot.key.key) c.args.self.now.story.entries h

-- one fewer, in all and of the client
pub returns-in-Some-clause-full : goal.returns-in-Some-clause-full
unfolding logged
returns-in-Some-clause-full c = λ full.
    let s = c.args.self.now in
    let key = key_of c.in-Some.spot.key.key in
    let fewer = length_left c.in-Some.ensures.stale.kept.until key s.story.entries (left (goal.at.returns-in-Some-clause-full c).In-Some) in
    let is = ap (λ (l : List Entry). length (entries_at l)) c.take_out.ensures.entries in
    let capacity = ap (λ l. l.capacity) c.take_out.ensures.others in
    absurd (omega (arith, full, is, capacity, fewer, s.within, length-map (without key s.story.entries) entry_in))

pub returns-in-Some-clause-share : goal.returns-in-Some-clause-share
unfolding logged
returns-in-Some-clause-share c = λ has.
    let s = c.args.self.now in
    let stale = c.in-Some.ensures.stale in
    let key = key_of c.in-Some.spot.key.key in
    let client : List ℕ = c.args.client_id.now in
    let fewer = held_left stale.kept.until key s.story.entries (left (goal.at.returns-in-Some-clause-share c).In-Some) client in
    let own : ◌≡◌ {A = ℕ} (cond (bytes_eq key.client_id client) 1 0) 1 = ap (λ b. cond b 1 0) ((bytes_eq-Decides key.client_id client).1 (ap (λ k. k.client_id) stale.key ∙ stale.of_client)) in
    let is = ap (λ (l : List Entry). held_of client (keys_at l)) c.take_out.ensures.entries in
    let share = ap (λ l. l.share) c.take_out.ensures.others in
    absurd (omega (arith, has, is, share, fewer, own, s.shared client))

pub returns-in-None-clause-share : goal.returns-in-None-clause-share
unfolding logged
returns-in-None-clause-share c = λ has.
    let s = c.args.self.now in
    held_live s.kept s.story.entries s.listed c.args.now c.args.client_id.now c.in-None.ensures.none ∙ has

pub returns-in-Some-clause-few : goal.returns-in-Some-clause-few
unfolding logged
returns-in-Some-clause-few c =
    let s = c.args.self.now in
    let key = key_of c.in-Some.spot.key.key in
    omega (
      arith,
      ap (λ (l : List Entry). length (entries_at l)) c.take_out.ensures.entries,
      length-map s.story.entries entry_in,
      length-map (without key s.story.entries) entry_in,
      without_few key s.story.entries s.distinct,
    )
