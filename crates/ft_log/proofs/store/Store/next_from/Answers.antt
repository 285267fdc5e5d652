use Rattle.std.proofs.Common.{sym, ap, ◌∙◌}
use Rattle.ft_log.specs.Kept.{least_expiration}
use Rattle.ft_log.specs.Logged.{logged}
use Rattle.ft_log.proofs.Scanned.{least_live}
use Rattle.ft_log.proofs.store.Store.next_from.Goals as goal

pub returns-then-has_stale : goal.returns-then-has_stale
unfolding logged
returns-then-has_stale c =
    let s = c.args.self.now in
    least_live s.kept.outcomes.entries s.story.entries s.listed c.args.now c.least_from.result c.least_from.ensures

pub returns-else-has_stale : goal.returns-else-has_stale
unfolding logged
returns-else-has_stale c = c.next_expiry.ensures.least ∙ sym (ap least_expiration (c.has_stale.ensures.no c.if-has_stale.false))
