use Rattle.std.proofs.Common.{rules}
use Rattle.cdr_core.specs.Reading.{value_at}
use Rattle.cdr_core.specs.declared.values.Val.TheFolds.{the_lemmas}
use Rattle.cdr_core.proofs.reading.string.Goals as goal

pub returns-in_err-text : goal.returns-in_err-text
unfolding value_at
returns-in_err-text c = search rules

pub returns-in_err-from_slice : goal.returns-in_err-from_slice
unfolding value_at
returns-in_err-from_slice c = search rules

pub returns : goal.returns
unfolding value_at
returns c = search (rules, the_lemmas)
