use Rattle.std.proofs.Common.{◌≡◌, Bool, true, false, cond, List, option_map, sym, ap, ◌∙◌}
use Rattle.ft_log.specs.Dues.{under}
use Rattle.ft_log.specs.Holding.{Holding}
use Rattle.ft_log.specs.Keys.{RequestKey}
use Rattle.ft_log.specs.Kept.{KeptOutcome}
use Rattle.ft_log.specs.Logged.{logged}
use Rattle.ft_log.specs.Shelf.{slot_at}
use Rattle.ft_log.specs.Tied.{outcome_for}
use Rattle.ft_log.specs.View.{entries_at, key_of}
use Rattle.ft_log.specs.Without.{without}
use Rattle.ft_log.specs.declared.story.Entry.{Entry}
use Rattle.ft_log.proofs.Placing.{placed_under}
use Rattle.ft_log.proofs.Withdrawn.{entries-withdrawn, is_parked_in}
use Rattle.ft_log.proofs.store.Store.withdraw.Goals as goal

pub take_out-requires-clause-slot : goal.take_out-requires-clause-slot
take_out-requires-clause-slot c = ap (slot_at c.args.self.now.kept) c.in-Some.ensures.key ∙ c.in-Some.ensures.slot

pub take_out-requires-clause-place : goal.take_out-requires-clause-place
take_out-requires-clause-place c =
    let s = c.args.self.now in
    placed_under s.kept.outcomes.entries (under s.order) c.in-Some.spot.place c.in-Some.spot.slot s.placed c.in-Some.ensures.place

pub returns-in-Some : goal.returns-in-Some
unfolding logged
returns-in-Some c =
    let s = c.args.self.now in
    let key : RequestKey = key_of c.args.key.now in
    let es : List Entry = s.story.entries in
    let parked : is_parked_in c.args.number (outcome_for key es) ≡ true = ap (is_parked_in c.args.number) (sym (s.found key)) ∙ c.in-Some.ensures.parked in
    let left = ap (λ (l : List Entry). entries_at l) (c.take_out.ensures.entries ∙ ap (λ (k : RequestKey). without k es) c.in-Some.ensures.key) in
    let all = entries-withdrawn key c.args.number es s.distinct ∙ ap (λ (b : Bool). entries_at (cond b (without key es) es)) parked in
    c.take_out.ensures.others ∙ ap (λ (l : List (KeptOutcome Holding)). record { capacity = s.capacity; share = s.share; entries = l; room = option_map (λ r. key_of r.key.key) s.room }) (left ∙ sym all)

pub returns-in-None : goal.returns-in-None
unfolding logged
returns-in-None c =
    let s = c.args.self.now in
    let key : RequestKey = key_of c.args.key.now in
    let es : List Entry = s.story.entries in
    let parked : is_parked_in c.args.number (outcome_for key es) ≡ false = ap (is_parked_in c.args.number) (sym (s.found key)) ∙ c.in-None.ensures.none in
    let all = entries-withdrawn key c.args.number es s.distinct ∙ ap (λ (b : Bool). entries_at (cond b (without key es) es)) parked in
    ap (λ (l : List (KeptOutcome Holding)). record { capacity = s.capacity; share = s.share; entries = l; room = option_map (λ r. key_of r.key.key) s.room }) (sym all)
