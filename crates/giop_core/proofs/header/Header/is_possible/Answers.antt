use Rattle.std.proofs.Common.{rules}
use Rattle.giop_core.proofs.header.Header.is_possible.Goals as goal

pub returns-then-not-self : goal.returns-then-not-self
returns-then-not-self c = search rules

pub returns-else-not-self : goal.returns-else-not-self
returns-else-not-self c = search rules

pub returns-else-has_kind : goal.returns-else-has_kind
returns-else-has_kind c = search rules
