use Rattle.ft_lives.proofs.Committed.{commits-were-admitted}
use Rattle.ft_lives.proofs.laws.commits_were_admitted.Goals as goal

pub returns : goal.returns
returns c = commits-were-admitted
