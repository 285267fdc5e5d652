use Rattle.cdr_core.specs.Parts.{octet, octet_value}
use Rattle.giop_core.proofs.Finding.{gives_on}
use Rattle.giop_core.proofs.finder.Finder.octet.Goals as goal

pub invariant_of-self : goal.invariant_of-self
invariant_of-self c = gives_on octet_value c.octet.result octet c.self.inside.cursor.order c.self.inside.octets.now c.self.inside.cursor c.octet.new.self c.octet.ensures c.self.invariant
