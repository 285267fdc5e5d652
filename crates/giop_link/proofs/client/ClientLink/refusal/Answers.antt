use Rattle.std.proofs.Common.{rules}
use Rattle.giop_link.proofs.client.ClientLink.refusal.Goals as goal

pub returns-then-outstanding-from : goal.returns-then-outstanding-from
returns-then-outstanding-from c = search rules

pub returns-then-self : goal.returns-then-self
returns-then-self c = search rules
