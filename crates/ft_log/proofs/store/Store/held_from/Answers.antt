use Rattle.std.proofs.Common.{◌≡◌, List, ℕ, ap, sym, ◌∙◌, arith}
use Rattle.ft_log.specs.Holding.{Holding}
use Rattle.ft_log.specs.Keys.{held_of}
use Rattle.ft_log.specs.Kept.{KeptOutcome, keys_of, unexpired}
use Rattle.ft_log.specs.Logged.{logged}
use Rattle.ft_log.specs.View.{entries_at}
use Rattle.ft_log.proofs.Live.{held-unexpired}
use Rattle.ft_log.proofs.Scanned.{held_many}
use Rattle.ft_log.proofs.store.Store.held_from.Goals as goal
use Rattle.ft_log.proofs.store.Store.held_from.Goals.{After-held_by}

-- the keys in the map are those of the entries
walked : (c : After-held_by) → c.held_by.result ≡ held_of c.args.client_id.now (keys_of (unexpired c.args.now (entries_at c.args.self.now.story.entries)))
walked c = let s = c.args.self.now in c.held_by.ensures ∙ held_many s.kept.outcomes.entries s.story.entries s.listed c.args.now c.args.client_id.now

pub overflow_cast-result : goal.overflow_cast-result
unfolding logged
overflow_cast-result c =
    let s = c.args.self.now in
    omega (arith, walked c, held-unexpired c.args.client_id.now c.args.now (entries_at s.story.entries), s.shared c.args.client_id.now)

pub returns-then-is_counted_from-clause-held : goal.returns-then-is_counted_from-clause-held
unfolding logged
returns-then-is_counted_from-clause-held c =
    let s = c.args.self.now in
    let client : List ℕ = c.args.client_id.now in
    let counted = c.is_counted_from.ensures.counts c.if-is_counted_from.true in
    let stays = c.is_counted_from.ensures.stays c.if-is_counted_from.true in
    c.count_of.ensures ∙ s.counted counted client ∙ sym (ap (λ (l : List (KeptOutcome Holding)). held_of client (keys_of l)) stays)

pub returns-then-is_counted_from-clause-bound : goal.returns-then-is_counted_from-clause-bound
unfolding logged
returns-then-is_counted_from-clause-bound c =
    let s = c.args.self.now in
    let counted = c.is_counted_from.ensures.counts c.if-is_counted_from.true in
    omega (arith, c.count_of.ensures, s.counted counted c.args.client_id.now, s.shared c.args.client_id.now)

pub returns-else-is_counted_from-clause-held : goal.returns-else-is_counted_from-clause-held
unfolding logged
returns-else-is_counted_from-clause-held c = walked c

pub returns-else-is_counted_from-clause-bound : goal.returns-else-is_counted_from-clause-bound
unfolding logged
returns-else-is_counted_from-clause-bound c =
    let s = c.args.self.now in
    omega (arith, walked c, held-unexpired c.args.client_id.now c.args.now (entries_at s.story.entries), s.shared c.args.client_id.now)
