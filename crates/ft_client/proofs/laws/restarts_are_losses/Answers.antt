use Rattle.ft_client.proofs.Restarting.{restarts-are-losses}
use Rattle.ft_client.proofs.laws.restarts_are_losses.Goals as goal

pub returns : goal.returns
returns c = restarts-are-losses
