use Rattle.std.proofs.Common.{ℕ, List, Ok, pos, refl, sym, ap, ◌∙◌}
use Rattle.cdr_core.specs.Value as value
use Rattle.cdr_core.specs.Value.{Value}
use Rattle.giop_core.specs.Messages.{Found}
use Rattle.giop_core.specs.Private.{target_value}
use Rattle.giop_core.specs.Written.{alternative}
use Rattle.giop_core.proofs.Finding.{field_on, key_lies, on_on, other_read}
use Rattle.giop_core.proofs.finder.Finder.target.Goals as goal

pub invariant_of-self : goal.invariant_of-self
invariant_of-self c =
    let old = c.self.inside.cursor in
    let read = rw c.fork-next.ensures at c.in_ok-target.ensures in
    on_on 12 c.self.inside.octets.now old c.read_target.new.cursor c.self.invariant (field_on old.order old.place old.rest (target_value c.in_ok-target.target) c.read_target.new.cursor read.0)

pub overflow_sub-result : goal.overflow_sub-result
overflow_sub-result c =
    let old = c.self.inside.cursor in
    let new = c.read_target.new.cursor in
    let read = rw (c.fork-next.ensures, c.in-Key.is) at c.in_ok-target.ensures in
    (key_lies old.order c.self.inside.octets.now old c.self.invariant c.in-Key.key.now c.start-end.result new.place new.rest c.start-end.ensures.place read.0).0

pub returns-in-Key-clause-reads : goal.returns-in-Key-clause-reads
returns-in-Key-clause-reads c =
    let old = c.self.inside.cursor in
    let new = c.read_target.new.cursor in
    let read = rw (c.fork-next.ensures, c.in-Key.is) at c.in_ok-target.ensures in
    let lies = key_lies old.order c.self.inside.octets.now old c.self.invariant c.in-Key.key.now c.start-end.result new.place new.rest c.start-end.ensures.place read.0 in
    let keyed : (k : List ℕ) → Found Value = λ k. Ok (alternative (pos 0) (value.octets k), new.place, new.rest) in
    rw (← c.self.view_is) (read.0 ∙ ap (λ k. keyed k) (sym lies.1), read.1)

pub invariant_of-self-2 : goal.invariant_of-self-2
invariant_of-self-2 c =
    let old = c.self.inside.cursor in
    let read = rw c.fork-next.ensures at c.in_ok-target.ensures in
    on_on 12 c.self.inside.octets.now old c.read_target.new.cursor c.self.invariant (field_on old.order old.place old.rest (target_value c.in_ok-target.target) c.read_target.new.cursor read.0)

pub returns : goal.returns
returns c =
    let old = c.self.inside.cursor in
    let new = c.read_target.new.cursor in
    let read = rw c.fork-next.ensures at c.in_ok-target.ensures in
    let begin = rw (← c.self.view_is) at c.start-start.ensures in
    let other = other_read old.order c.self.inside.octets.now c.start-start.result old c.in_ok-target.target new.place new.rest begin.place begin.rest read.0 in
    rw (← c.self.view_is) (record {
      reads = (rw other.0 read.0, read.1);
      octets = refl;
      within = (begin.within, other.1);
    })
