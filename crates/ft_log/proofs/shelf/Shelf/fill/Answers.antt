use Rattle.ft_log.proofs.Filling.{sums-refilled}
use Rattle.ft_log.proofs.shelf.Shelf.fill.Goals as goal

pub returns-clause-sums : goal.returns-clause-sums
returns-clause-sums c = λ f. sums-refilled f c.args.self.now.outcomes.entries c.refill.new.outcomes.entries c.refill.ensures.is
