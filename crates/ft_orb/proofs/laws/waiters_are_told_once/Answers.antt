use Rattle.ft_orb.proofs.Ledgers.{settled-are-theirs, told-once, unkept-are-theirs}
use Rattle.ft_orb.proofs.laws.waiters_are_told_once.Goals as goal

pub returns-clause-once : goal.returns-clause-once
returns-clause-once c s = told-once s c.streams_are_heard.ensures.stays

pub returns-clause-theirs : goal.returns-clause-theirs
returns-clause-theirs c = settled-are-theirs

pub returns-clause-unkept : goal.returns-clause-unkept
returns-clause-unkept c = unkept-are-theirs
