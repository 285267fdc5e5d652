use Rattle.ft_orb.proofs.Acting.{answered-late}
use Rattle.ft_orb.proofs.laws.runs_are_answered_late.Goals as goal

pub returns : goal.returns
returns c s = answered-late s c.streams_are_heard.ensures.stays
