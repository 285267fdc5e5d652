use Rattle.std.proofs.Common.{List, ℕ, Ok, sym, ap, ◌∙◌}
use Rattle.cdr_core.specs.Parts.{text}
use Rattle.cdr_core.specs.Reading.{Read}
use Rattle.cdr_core.specs.Value as value
use Rattle.cdr_core.specs.Value.{Value}
use Rattle.giop_core.proofs.Finding.{gives_on, text_lies}
use Rattle.giop_core.proofs.finder.Finder.string.Goals as goal

pub invariant_of-self-2 : goal.invariant_of-self-2
invariant_of-self-2 c = gives_on (λ x. value.string x.now) c.string.result text c.self.inside.cursor.order c.self.inside.octets.now c.self.inside.cursor c.string.new.self c.string.ensures c.self.invariant

pub overflow_sub-end : goal.overflow_sub-end
overflow_sub-end c =
    let new = c.string.new.self in
    (text_lies c.self.inside.cursor.order c.self.inside.octets.now c.self.inside.cursor c.self.invariant c.in_ok-text.text.now c.start-end.result new.place new.rest c.start-end.ensures.place c.in_ok-text.ensures.0).0

pub overflow_sub-result : goal.overflow_sub-result
overflow_sub-result c =
    let new = c.string.new.self in
    (text_lies c.self.inside.cursor.order c.self.inside.octets.now c.self.inside.cursor c.self.invariant c.in_ok-text.text.now c.start-end.result new.place new.rest c.start-end.ensures.place c.in_ok-text.ensures.0).1

pub returns-clause-reads : goal.returns-clause-reads
returns-clause-reads c =
    let new = c.string.new.self in
    let lies = text_lies c.self.inside.cursor.order c.self.inside.octets.now c.self.inside.cursor c.self.invariant c.in_ok-text.text.now c.start-end.result new.place new.rest c.start-end.ensures.place c.in_ok-text.ensures.0 in
    let read : (k : List ℕ) → Read Value = λ k. Ok (value.string k, new.place, new.rest) in
    rw (← c.self.view_is) (c.in_ok-text.ensures.0 ∙ ap (λ k. read k) (sym lies.2), c.in_ok-text.ensures.1)
