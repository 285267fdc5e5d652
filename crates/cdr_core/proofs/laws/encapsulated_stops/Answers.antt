use Rattle.cdr_core.proofs.Refused.{encapsulated_stops}
use Rattle.cdr_core.proofs.laws.encapsulated_stops.Goals as goal

pub returns : goal.returns
returns c = encapsulated_stops
