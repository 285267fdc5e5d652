use Rattle.cdr_core.specs.Form as form
use Rattle.cdr_core.specs.Parts.{enum_value}
use Rattle.giop_core.proofs.Finding.{gives_on}
use Rattle.giop_core.proofs.finder.Finder.ordinal.Goals as goal

pub invariant_of-self : goal.invariant_of-self
invariant_of-self c = gives_on enum_value c.ordinal.result (form.enumeration c.args.names) c.self.inside.cursor.order c.self.inside.octets.now c.self.inside.cursor c.ordinal.new.self c.ordinal.ensures c.self.invariant
