use Rattle.std.proofs.Common.{length, sym, ap, ◌∙◌, arith}
use Rattle.std.proofs.lemmas.List.{length-map}
use Rattle.ft_log.specs.Logged.{logged}
use Rattle.ft_log.specs.View.{entries_at, entry_in}
use Rattle.ft_log.proofs.Live.{length-unexpired}
use Rattle.ft_log.proofs.Scanned.{live_many}
use Rattle.ft_log.proofs.store.Store.len_from.Goals as goal

pub returns-then-has_stale-clause-length : goal.returns-then-has_stale-clause-length
unfolding logged
returns-then-has_stale-clause-length c =
    let s = c.args.self.now in
    c.len_from.ensures ∙ live_many s.kept.outcomes.entries s.story.entries s.listed c.args.now

pub returns-then-has_stale-clause-bound : goal.returns-then-has_stale-clause-bound
unfolding logged
returns-then-has_stale-clause-bound c =
    let s = c.args.self.now in
    let many = live_many s.kept.outcomes.entries s.story.entries s.listed c.args.now in
    omega (arith, c.len_from.ensures, many, length-unexpired c.args.now (entries_at s.story.entries), length-map s.story.entries entry_in, s.within)

pub returns-else-has_stale-clause-length : goal.returns-else-has_stale-clause-length
unfolding logged
returns-else-has_stale-clause-length c = c.len.ensures.length ∙ sym (ap length (c.has_stale.ensures.no c.if-has_stale.false))
