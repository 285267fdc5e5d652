use Rattle.ft_orb.proofs.Declined.{pasts-stand}
use Rattle.ft_orb.proofs.laws.requests_stand_once.Goals as goal

pub returns : goal.returns
returns c = λ s. pasts-stand s
