use Rattle.std.proofs.Common.{not, List, Some, length, sym, ap, ◌∙◌, subst, arith}
use Rattle.std.proofs.lemmas.List.{length-map}
use Rattle.std.specs.List.{count_by}
use Rattle.ft_log.specs.Dues.{under}
use Rattle.ft_log.specs.Keys.{held_of}
use Rattle.ft_log.specs.Kept.{kept_for, keys_of, unexpired}
use Rattle.ft_log.specs.Logged.{logged}
use Rattle.ft_log.specs.Shelf.{slot_at}
use Rattle.ft_log.specs.Tied.{is_slotted}
use Rattle.ft_log.specs.View.{entries_at, entry_in, key_of}
use Rattle.ft_log.specs.Without.{without}
use Rattle.ft_log.specs.declared.due.Due.{Due}
use Rattle.ft_log.specs.declared.story.Entry.{Entry}
use Rattle.ft_log.proofs.Dated.{left_first, none_before}
use Rattle.ft_log.proofs.Entries.{IsLeft, all_stay, length_left}
use Rattle.ft_log.proofs.Shares.{held-without}
use Rattle.ft_log.proofs.Queued.{none_parts}
use Rattle.ft_log.proofs.Slotted.{slot_is}
use Rattle.ft_log.proofs.Sought.{kept_for-still}
use Rattle.ft_log.proofs.store.Store.forget_next.Goals as goal
use Rattle.ft_log.proofs.store.Store.forget_next.Goals.{In-Some}

-- the entry that goes is one of them
left : (c : In-Some) → IsLeft c.in-Some.ensures.first.due.until.0 (key_of c.in-Some.spot.key.key) c.args.self.now.story.entries
left c =
    let s = c.args.self.now in
    let first = c.in-Some.ensures.first in
    subst (λ k. IsLeft first.due.until.0 (key_of k) s.story.entries) (sym first.key) (left_first s.order s.story.entries s.dated first.due first.rest first.is s.distinct)

pub take_out-requires-clause-slot : goal.take_out-requires-clause-slot
take_out-requires-clause-slot c =
    let s = c.args.self.now in
    let first = c.in-Some.ensures.first in
    let none = none_parts (λ (d : Due). not (is_slotted s.kept d)) first.due first.rest (sym (ap (count_by (λ (d : Due). not (is_slotted s.kept d))) first.is) ∙ s.slotted) in
    ap (λ k. slot_at s.kept (key_of k)) first.key ∙ slot_is s.kept first.due none.0 ∙ ap Some (sym first.slot)

pub take_out-requires-clause-place : goal.take_out-requires-clause-place
take_out-requires-clause-place c =
    let s = c.args.self.now in
    let first = c.in-Some.ensures.first in
    ap (under s.order) first.slot ∙ first.place

pub returns-in-Some-clause-one : goal.returns-in-Some-clause-one
unfolding logged
returns-in-Some-clause-one c =
    let s = c.args.self.now in
    let l = left (goal.at.returns-in-Some-clause-one c).In-Some in
    omega (
      arith,
      ap (λ (l : List Entry). length (entries_at l)) c.take_out.ensures.entries,
      length-map s.story.entries entry_in,
      length-map (without (key_of c.in-Some.spot.key.key) s.story.entries) entry_in,
      length_left c.in-Some.ensures.first.due.until.0 (key_of c.in-Some.spot.key.key) s.story.entries l,
    )

pub returns-in-Some-clause-same : goal.returns-in-Some-clause-same
unfolding logged
returns-in-Some-clause-same c =
    let l = left (goal.at.returns-in-Some-clause-same c).In-Some in
    ap (λ (l : List Entry). unexpired c.args.now (entries_at l)) c.take_out.ensures.entries ∙ l.same c.args.now c.in-Some.ensures.first.before

pub returns-in-Some-clause-absent : goal.returns-in-Some-clause-absent
unfolding logged
returns-in-Some-clause-absent c = λ key h.
    ap (λ (l : List Entry). kept_for key (entries_at l)) c.take_out.ensures.entries ∙ kept_for-still key (key_of c.in-Some.spot.key.key) c.args.self.now.story.entries h

pub returns-in-None-clause-none : goal.returns-in-None-clause-none
unfolding logged
returns-in-None-clause-none c =
    let s = c.args.self.now in
    λ _. all_stay c.args.now c.args.now s.story.entries (omega arith) (none_before s.order s.story.entries s.dated c.args.now c.in-None.ensures.none)

pub returns-in-Some-clause-held : goal.returns-in-Some-clause-held
unfolding logged
returns-in-Some-clause-held c = λ client.
    let is = ap (λ (l : List Entry). held_of client (keys_of (entries_at l))) c.take_out.ensures.entries in
    let fewer = held-without client (key_of c.in-Some.spot.key.key) c.args.self.now.story.entries in
    omega (arith, is, fewer)

pub returns-in-None-clause-held : goal.returns-in-None-clause-held
unfolding logged
returns-in-None-clause-held c = λ client. omega arith
