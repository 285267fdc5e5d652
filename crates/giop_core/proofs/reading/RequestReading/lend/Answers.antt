use Rattle.giop_core.specs.declared.places.Parts.TheVariants as parts
use Rattle.giop_core.specs.Lent.{request_of}
use Rattle.giop_core.proofs.OfKind.{near_of}
use Rattle.giop_core.proofs.reading.RequestReading.lend.Goals as goal

pub returns-clause-near : goal.returns-clause-near
returns-clause-near c =
    let m = c.self.inside in
    let h = m.header.now in
    rw (← c.self.view_is) (near_of h.version h.kind h.order m.octets.now (parts.Request m.parts.now) c.self.invariant (request_of c.lend.result) c.lend.ensures)
