use Rattle.giop_core.specs.Private.{contexts_value}
use Rattle.giop_core.specs.Rows.{contexts}
use Rattle.giop_core.proofs.Finding.{on_on, read_on}
use Rattle.giop_core.proofs.finder.Finder.contexts.Goals as goal

pub invariant_of-self : goal.invariant_of-self
invariant_of-self c =
    let old = c.self.inside.cursor in
    let new = c.read_contexts.new.cursor in
    let read = rw c.fork-next.ensures at c.in_ok-lent.ensures.reads in
    on_on 12 c.self.inside.octets.now old new c.self.invariant (read_on contexts old.order old.place old.rest (contexts_value c.in_ok-lent.lent) new read.0)
