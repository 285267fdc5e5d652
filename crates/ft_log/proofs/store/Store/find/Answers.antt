use Rattle.std.proofs.Common.{option_map, ap, ◌∙◌}
use Rattle.ft_log.specs.Logged.{logged}
use Rattle.ft_log.specs.View.{key_of, holding_in}
use Rattle.ft_log.proofs.Entries.{copied}
use Rattle.ft_log.proofs.Sought.{found_at}
use Rattle.ft_log.proofs.store.Store.find.Goals as goal

pub returns : goal.returns
unfolding logged
returns c =
    let s = c.args.self.now in
    copied c.outcome_at.result ∙ ap (option_map holding_in) c.outcome_at.ensures ∙ found_at s.kept s.story.entries s.found s.distinct s.listed c.args.now (key_of c.args.key.now)
