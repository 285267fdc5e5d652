use Rattle.ft_client.proofs.Living.{calls-complete-once}
use Rattle.ft_client.proofs.laws.a_call_completes_once.Goals as goal

pub returns : goal.returns
returns c = calls-complete-once
