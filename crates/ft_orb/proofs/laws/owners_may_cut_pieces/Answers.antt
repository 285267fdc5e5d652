use Rattle.ft_orb.specs.Owners.{meaning_of}
use Rattle.ft_orb.proofs.Cutting.{cut-pieces-write}
use Rattle.ft_orb.proofs.laws.owners_may_cut_pieces.Goals as goal

pub returns : goal.returns
returns c = λ owner. cut-pieces-write c.streams_are_heard.ensures.grows c.streams_are_heard.ensures.stays c.streams_are_heard.ensures.silent (meaning_of owner)
