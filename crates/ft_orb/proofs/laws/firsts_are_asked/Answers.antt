use Rattle.ft_orb.proofs.AskedFirst.{firsts-are-asked, firsts-lack-room, others-are-no-firsts}
use Rattle.ft_orb.proofs.laws.firsts_are_asked.Goals as goal

pub returns-clause-asked : goal.returns-clause-asked
returns-clause-asked c = firsts-are-asked

pub returns-clause-refused : goal.returns-clause-refused
returns-clause-refused c = firsts-lack-room

pub returns-clause-others : goal.returns-clause-others
returns-clause-others c = others-are-no-firsts
