use Rattle.std.proofs.Common.{ap, ◌∙◌, refl}
use Rattle.ft_log.specs.Logged.{clock_of, stale_of}
use Rattle.ft_log.specs.Store.{live_from}
use Rattle.ft_log.proofs.Gone.{gone-zero}
use Rattle.ft_log.proofs.Seen.{shown-is}
use Rattle.ft_log.proofs.log.Log.new.Goals as goal

pub returns-clause-empty : goal.returns-clause-empty
returns-clause-empty c = shown-is 0 c.new.result ∙ ap (live_from 0) c.new.ensures

pub returns-clause-clock : goal.returns-clause-clock
unfolding clock_of
returns-clause-clock c = refl

pub returns-clause-stale : goal.returns-clause-stale
unfolding stale_of
returns-clause-stale c = gone-zero 0 c.new.result.story.entries refl
