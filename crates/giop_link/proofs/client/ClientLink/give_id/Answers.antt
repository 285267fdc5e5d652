use Rattle.std.proofs.Common.{rules}
use Rattle.giop_link.proofs.client.ClientLink.give_id.Goals as goal

pub returns-clause-ok : goal.returns-clause-ok
returns-clause-ok c = search rules

pub returns-clause-stands : goal.returns-clause-stands
returns-clause-stands c = search rules
