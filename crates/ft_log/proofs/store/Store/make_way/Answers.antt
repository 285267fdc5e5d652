use Rattle.std.proofs.Common.{ap, sym, List, ◌∙◌}
use Rattle.ft_log.specs.Holding.{Holding}
use Rattle.ft_log.specs.Keys.{held_of}
use Rattle.ft_log.specs.Kept.{KeptOutcome, kept_for, keys_of}
use Rattle.ft_log.specs.Logged.{logged}
use Rattle.ft_log.specs.View.{key_of}
use Rattle.ft_log.proofs.store.Store.make_way.Goals as goal

pub returns-else-has_stale-clause-absent : goal.returns-else-has_stale-clause-absent
unfolding logged
returns-else-has_stale-clause-absent c = ap (λ (l : List (KeptOutcome Holding)). kept_for (key_of c.args.key.now) l) (sym (c.has_stale.ensures.no c.if-has_stale.false)) ∙ c.requires

pub returns-else-has_stale-clause-full : goal.returns-else-has_stale-clause-full
unfolding logged
returns-else-has_stale-clause-full c = λ _. c.has_stale.ensures.no c.if-has_stale.false

pub returns-else-has_stale-clause-share : goal.returns-else-has_stale-clause-share
unfolding logged
returns-else-has_stale-clause-share c = λ _ is. ap (λ (l : List (KeptOutcome Holding)). held_of (key_of c.args.key.now).client_id (keys_of l)) (c.has_stale.ensures.no c.if-has_stale.false) ∙ is
