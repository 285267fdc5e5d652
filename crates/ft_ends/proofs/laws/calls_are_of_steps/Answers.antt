use Rattle.ft_ends.proofs.Stepped.{calls-are-of-steps}
use Rattle.ft_ends.proofs.laws.calls_are_of_steps.Goals as goal

pub returns : goal.returns
returns c = calls-are-of-steps
