use Rattle.ft_client.proofs.Patching.{same_length}
use Rattle.ft_client.proofs.laws.requests_are_as_long.Goals as goal

pub returns : goal.returns
returns c = same_length
