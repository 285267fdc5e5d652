use Rattle.giop_core.specs.declared.places.Parts.TheVariants as parts
use Rattle.giop_core.specs.Lent.{reply_of}
use Rattle.giop_core.proofs.OfKind.{near_of}
use Rattle.giop_core.proofs.reading.ReplyReading.lend.Goals as goal

pub returns-clause-near : goal.returns-clause-near
returns-clause-near c =
    let m = c.self.inside in
    let h = m.header.now in
    rw (← c.self.view_is) (near_of h.version h.kind h.order m.octets.now (parts.Reply m.parts.now) c.self.invariant (reply_of c.lend.result) c.lend.ensures)
