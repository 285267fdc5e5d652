use Rattle.std.proofs.Common.{rules}
use Rattle.giop_link.proofs.client.ClientLink.outstanding.Goals as goal

pub returns-clause-outstanding : goal.returns-clause-outstanding
returns-clause-outstanding c = search rules

pub returns-clause-bound : goal.returns-clause-bound
returns-clause-bound c = search rules

pub returns-clause-closed : goal.returns-clause-closed
returns-clause-closed c = search rules
