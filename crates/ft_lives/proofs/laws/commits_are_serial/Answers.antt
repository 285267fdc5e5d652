use Rattle.ft_lives.proofs.Serial.{serial-is-of-commits}
use Rattle.ft_lives.proofs.laws.commits_are_serial.Goals as goal

pub returns : goal.returns
returns g c = serial-is-of-commits (λ state call. g.S.Servant.meaning.apply state call.object_key call.operation call.arguments)
