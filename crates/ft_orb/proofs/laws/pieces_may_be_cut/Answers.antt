use Rattle.ft_orb.proofs.Cutting.{cut-pieces-write, pieces-may-be-cut}
use Rattle.ft_orb.proofs.laws.pieces_may_be_cut.Goals as goal

pub returns-clause-cut : goal.returns-clause-cut
returns-clause-cut g c = pieces-may-be-cut c.streams_are_heard.ensures.grows

pub returns-clause-servant : goal.returns-clause-servant
returns-clause-servant g c = cut-pieces-write c.streams_are_heard.ensures.grows c.streams_are_heard.ensures.stays c.streams_are_heard.ensures.silent g.S.Servant.meaning
