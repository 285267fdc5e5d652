use Rattle.std.proofs.Common.{rules}
use Rattle.cdr_core.specs.declared.values.Val.TheFolds.{the_lemmas}
use Rattle.cdr_core.proofs.basic.boolean.Goals as goal

pub returns-in-0 : goal.returns-in-0
returns-in-0 c = search (rules, the_lemmas)

pub returns-in-1 : goal.returns-in-1
returns-in-1 c = search (rules, the_lemmas)

pub returns-in_default : goal.returns-in_default
returns-in_default c = search rules
