use Rattle.std.proofs.Common.{ap, ◌∙◌, List}
use Rattle.ft_log.specs.Holding.{Holding}
use Rattle.ft_log.specs.Kept.{KeptOutcome}
use Rattle.ft_log.specs.Logged.{logged}
use Rattle.ft_log.specs.Store.{shown}
use Rattle.ft_log.specs.View.{entries_at}
use Rattle.ft_log.proofs.Live.{unexpired-zero}
use Rattle.ft_log.proofs.store.Store.clock_for.Goals as goal

pub returns-clause-same : goal.returns-clause-same
unfolding logged
returns-clause-same c =
    let s = c.forget.new.self in
    ap (λ (l : List (KeptOutcome Holding)). record (logged (shown s)) { entries = l }) (unexpired-zero (entries_at s.story.entries)) ∙ c.forget.ensures
