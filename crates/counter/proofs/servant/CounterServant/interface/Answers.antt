use Rattle.std.proofs.Common.{rules}
use Rattle.counter.proofs.servant.CounterServant.interface.Goals as goal

pub returns-then-not-has_object : goal.returns-then-not-has_object
returns-then-not-has_object c = search rules

pub returns-then-eq : goal.returns-then-eq
returns-then-eq c = search rules

pub returns-then-eq-2 : goal.returns-then-eq-2
returns-then-eq-2 c = search rules

pub returns : goal.returns
returns c = search rules
