use Rattle.std.proofs.Common.{List, length, option_map, sym, ap, ◌∙◌, arith}
use Rattle.std.proofs.lemmas.List.{length-map}
use Rattle.ft_log.specs.Dues.{under}
use Rattle.ft_log.specs.Keys.{RequestKey}
use Rattle.ft_log.specs.Logged.{logged}
use Rattle.ft_log.specs.Shelf.{slot_at}
use Rattle.ft_log.specs.View.{entries_at, entry_in, key_of}
use Rattle.ft_log.specs.Without.{without}
use Rattle.ft_log.specs.declared.story.Entry.{Entry}
use Rattle.ft_log.proofs.Entries.{without_few}
use Rattle.ft_log.proofs.Placing.{placed_under}
use Rattle.ft_log.proofs.Sought.{without-absent}
use Rattle.ft_log.proofs.store.Store.take_key.Goals as goal

pub take_out-requires-clause-slot : goal.take_out-requires-clause-slot
take_out-requires-clause-slot c = ap (slot_at c.args.self.now.kept) c.in-Some.ensures.key ∙ c.in-Some.ensures.slot

pub take_out-requires-clause-place : goal.take_out-requires-clause-place
take_out-requires-clause-place c =
    let s = c.args.self.now in
    placed_under s.kept.outcomes.entries (under s.order) c.in-Some.spot.place c.in-Some.spot.slot s.placed c.in-Some.ensures.place

pub returns-in-Some-clause-entries : goal.returns-in-Some-clause-entries
returns-in-Some-clause-entries c = c.take_out.ensures.entries ∙ ap (λ (k : RequestKey). without k c.args.self.now.story.entries) c.in-Some.ensures.key

pub returns-in-None-clause-entries : goal.returns-in-None-clause-entries
returns-in-None-clause-entries c =
    let s = c.args.self.now in
    let key : RequestKey = key_of c.args.key.now in
    sym (without-absent key s.story.entries (sym (s.found key) ∙ ap (option_map (λ k. k.outcome)) c.in-None.ensures.none))

pub returns-in-Some-clause-few : goal.returns-in-Some-clause-few
unfolding logged
returns-in-Some-clause-few c =
    let s = c.args.self.now in
    let key = key_of c.in-Some.spot.key.key in
    omega (
      arith,
      ap (λ (l : List Entry). length (entries_at l)) c.take_out.ensures.entries,
      length-map s.story.entries entry_in,
      length-map (without key s.story.entries) entry_in,
      without_few key s.story.entries s.distinct,
    )
