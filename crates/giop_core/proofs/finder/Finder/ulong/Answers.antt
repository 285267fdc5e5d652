use Rattle.cdr_core.specs.Parts.{ulong, ulong_value}
use Rattle.giop_core.proofs.Finding.{gives_on}
use Rattle.giop_core.proofs.finder.Finder.ulong.Goals as goal

pub invariant_of-self : goal.invariant_of-self
invariant_of-self c = gives_on ulong_value c.ulong.result ulong c.self.inside.cursor.order c.self.inside.octets.now c.self.inside.cursor c.ulong.new.self c.ulong.ensures c.self.invariant
