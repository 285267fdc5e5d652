use Rattle.ft_client.proofs.Whole.{ids-are-left}
use Rattle.ft_client.proofs.laws.ids_are_left.Goals as goal

pub returns : goal.returns
returns c = ids-are-left
