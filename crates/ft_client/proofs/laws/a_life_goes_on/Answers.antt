use Rattle.ft_client.proofs.Living.{life-goes_on}
use Rattle.ft_client.proofs.laws.a_life_goes_on.Goals as goal

pub returns : goal.returns
returns c = life-goes_on
