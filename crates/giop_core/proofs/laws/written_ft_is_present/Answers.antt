use Rattle.giop_core.proofs.ReadAgain.{ft_read}
use Rattle.giop_core.proofs.laws.written_ft_is_present.Goals as goal

pub returns : goal.returns
returns c = ft_read c.spelled_is_read.ensures c.written_is_spelled.ensures
