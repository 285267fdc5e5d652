use Rattle.ft_log.specs.View.{performed_in}
use Rattle.ft_orb.proofs.Carried.{fits-none}
use Rattle.ft_orb.proofs.answering.Asker.answer.Goals as goal

pub answer_with-requires-clause-fits : goal.answer_with-requires-clause-fits
answer_with-requires-clause-fits c = fits-none c.args.self (performed_in c.args.outcome.now)
