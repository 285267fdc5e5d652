use Rattle.cdr_core.specs.Form as form
use Rattle.cdr_core.specs.Value as value
use Rattle.giop_core.proofs.Finding.{gives_on}
use Rattle.giop_core.proofs.finder.Finder.boolean.Goals as goal

pub invariant_of-self : goal.invariant_of-self
invariant_of-self c = gives_on value.boolean c.boolean.result form.boolean c.self.inside.cursor.order c.self.inside.octets.now c.self.inside.cursor c.boolean.new.self c.boolean.ensures c.self.invariant
