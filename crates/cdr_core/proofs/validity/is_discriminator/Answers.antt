use Rattle.std.proofs.Common.{rules}
use Rattle.cdr_core.specs.declared.types.Ty.TheFolds.{the_lemmas}
use Rattle.cdr_core.proofs.validity.is_discriminator.Goals as goal

pub returns-in_default : goal.returns-in_default
returns-in_default c = search (rules, the_lemmas)

pub returns-in-Short : goal.returns-in-Short
returns-in-Short c = search (rules, the_lemmas)

pub returns-in-Short-2 : goal.returns-in-Short-2
returns-in-Short-2 c = search (rules, the_lemmas)

pub returns-in-Short-3 : goal.returns-in-Short-3
returns-in-Short-3 c = search (rules, the_lemmas)

pub returns-in-Short-4 : goal.returns-in-Short-4
returns-in-Short-4 c = search (rules, the_lemmas)

pub returns-in-Short-5 : goal.returns-in-Short-5
returns-in-Short-5 c = search (rules, the_lemmas)

pub returns-in-Short-6 : goal.returns-in-Short-6
returns-in-Short-6 c = search (rules, the_lemmas)

pub returns-in-Boolean : goal.returns-in-Boolean
returns-in-Boolean c = search (rules, the_lemmas)

pub returns-in-Boolean-2 : goal.returns-in-Boolean-2
returns-in-Boolean-2 c = search (rules, the_lemmas)

pub returns-in-Boolean-3 : goal.returns-in-Boolean-3
returns-in-Boolean-3 c = search (rules, the_lemmas)
