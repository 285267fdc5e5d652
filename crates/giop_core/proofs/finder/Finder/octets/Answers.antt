use Rattle.std.proofs.Common.{List, ℕ, Ok, sym, ap, ◌∙◌}
use Rattle.cdr_core.specs.Parts.{raw, raw_value}
use Rattle.cdr_core.specs.Reading.{Read}
use Rattle.cdr_core.specs.Value as value
use Rattle.cdr_core.specs.Value.{Value}
use Rattle.giop_core.proofs.Finding.{gives_on, raw_lies}
use Rattle.giop_core.proofs.finder.Finder.octets.Goals as goal

pub invariant_of-self-2 : goal.invariant_of-self-2
invariant_of-self-2 c = gives_on raw_value c.octets.result raw c.self.inside.cursor.order c.self.inside.octets.now c.self.inside.cursor c.octets.new.self c.octets.ensures c.self.invariant

pub overflow_sub-result : goal.overflow_sub-result
overflow_sub-result c =
    let new = c.octets.new.self in
    (raw_lies c.self.inside.cursor.order c.self.inside.octets.now c.self.inside.cursor c.self.invariant c.in_ok-octets.octets.now c.start-end.result new.place new.rest c.start-end.ensures.place c.in_ok-octets.ensures.0).0

pub returns-clause-reads : goal.returns-clause-reads
returns-clause-reads c =
    let new = c.octets.new.self in
    let lies = raw_lies c.self.inside.cursor.order c.self.inside.octets.now c.self.inside.cursor c.self.invariant c.in_ok-octets.octets.now c.start-end.result new.place new.rest c.start-end.ensures.place c.in_ok-octets.ensures.0 in
    let read : (k : List ℕ) → Read Value = λ k. Ok (value.octets k, new.place, new.rest) in
    rw (← c.self.view_is) (c.in_ok-octets.ensures.0 ∙ ap (λ k. read k) (sym lies.1), c.in_ok-octets.ensures.1)
