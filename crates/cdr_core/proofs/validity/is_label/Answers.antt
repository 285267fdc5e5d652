use Rattle.std.proofs.Common.{rules}
use Rattle.cdr_core.specs.declared.types.Ty.{the_lemmas}
use Rattle.cdr_core.proofs.validity.is_label.Goals as goal

pub returns-then-label-ge0 : goal.returns-then-label-ge0
returns-then-label-ge0 c = search (rules, the_lemmas)

pub returns-else-label-ge0 : goal.returns-else-label-ge0
returns-else-label-ge0 c = search (rules, the_lemmas)

pub returns-in-Short : goal.returns-in-Short
returns-in-Short c = search (rules, the_lemmas)

pub returns-in-UShort : goal.returns-in-UShort
returns-in-UShort c = search (rules, the_lemmas)

pub returns-in-Long : goal.returns-in-Long
returns-in-Long c = search (rules, the_lemmas)

pub returns-in-ULong : goal.returns-in-ULong
returns-in-ULong c = search (rules, the_lemmas)

pub returns-in-LongLong : goal.returns-in-LongLong
returns-in-LongLong c = search (rules, the_lemmas)

pub returns-in-ULongLong : goal.returns-in-ULongLong
returns-in-ULongLong c = search (rules, the_lemmas)

pub returns-then-label-ge0-2 : goal.returns-then-label-ge0-2
returns-then-label-ge0-2 c = search (rules, the_lemmas)

pub returns-else-label-ge0-2 : goal.returns-else-label-ge0-2
returns-else-label-ge0-2 c = search (rules, the_lemmas)

pub returns-in_default : goal.returns-in_default
returns-in_default c = search (rules, the_lemmas)

pub returns-in-Char : goal.returns-in-Char
returns-in-Char c = search (rules, the_lemmas)
