use Rattle.std.proofs.Common.{rules}
use Rattle.ft_log.specs.Logged.{logged}
use Rattle.ft_log.proofs.store.Store.new.Goals as goal

pub returns : goal.returns
unfolding logged
returns c = search rules
