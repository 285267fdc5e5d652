use Rattle.ft_log.specs.Dues.{dues}
use Rattle.ft_log.proofs.Queued.{none_first, there_first}
use Rattle.ft_log.proofs.order.Order.least.Goals as goal

pub returns-in-Some-clause-there : goal.returns-in-Some-clause-there
returns-in-Some-clause-there c = there_first (dues c.args.self.now) c.in-Some.due.now c.in-Some.ensures.first

pub returns-in-None-clause-none : goal.returns-in-None-clause-none
returns-in-None-clause-none c = none_first (dues c.args.self.now) c.in-None.ensures.first
