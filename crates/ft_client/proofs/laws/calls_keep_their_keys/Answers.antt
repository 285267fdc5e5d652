use Rattle.ft_client.proofs.Keys.{calls-keep-their-keys}
use Rattle.ft_client.proofs.laws.calls_keep_their_keys.Goals as goal

pub returns : goal.returns
returns c = calls-keep-their-keys
