use Rattle.ft_client.proofs.Gapless.{numbers-have-no-gaps}
use Rattle.ft_client.proofs.laws.numbers_have_no_gaps.Goals as goal

pub returns : goal.returns
returns c = numbers-have-no-gaps
