use Rattle.std.proofs.Common.{rules}
use Rattle.cdr_core.specs.Reading.{text_at}
use Rattle.cdr_core.proofs.parts.text_of.Goals as goal

pub returns-clause-given : goal.returns-clause-given
unfolding text_at
returns-clause-given c = search rules
