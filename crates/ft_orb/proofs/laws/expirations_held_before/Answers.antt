use Rattle.ft_orb.proofs.Headline.{held-before, held-before-event}
use Rattle.ft_orb.proofs.laws.expirations_held_before.Goals as goal

pub returns-clause-event : goal.returns-clause-event
returns-clause-event c = held-before-event

pub returns-clause-play : goal.returns-clause-play
returns-clause-play c = held-before
