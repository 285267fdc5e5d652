use Rattle.giop_core.specs.Private.{three_value}
use Rattle.giop_core.specs.Rows.{reserved}
use Rattle.giop_core.proofs.Finding.{on_on, read_on}
use Rattle.giop_core.proofs.finder.Finder.reserved.Goals as goal

pub invariant_of-self : goal.invariant_of-self
invariant_of-self c =
    let old = c.self.inside.cursor in
    let new = c.read_reserved.new.cursor in
    let read = rw c.fork-next.ensures at c.in_ok-octets.ensures in
    on_on 12 c.self.inside.octets.now old new c.self.invariant (read_on reserved old.order old.place old.rest (three_value c.in_ok-octets.octets) new read.0)
