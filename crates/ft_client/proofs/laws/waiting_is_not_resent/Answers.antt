use Rattle.ft_client.proofs.Waiting.{waiting-is-not-resent}
use Rattle.ft_client.proofs.laws.waiting_is_not_resent.Goals as goal

pub returns : goal.returns
returns c = waiting-is-not-resent
