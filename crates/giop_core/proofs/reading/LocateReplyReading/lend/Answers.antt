use Rattle.std.proofs.Common.{ap}
use Rattle.giop_core.specs.declared.places.Parts.TheVariants as parts
use Rattle.giop_core.specs.Content as content
use Rattle.giop_core.specs.Lent.{rest_of}
use Rattle.giop_core.proofs.OfKind.{near_of}
use Rattle.giop_core.proofs.reading.LocateReplyReading.lend.Goals as goal

pub returns-clause-near : goal.returns-clause-near
returns-clause-near c =
    let m = c.self.inside in
    let h = m.header.now in
    rw (← c.self.view_is) (near_of h.version h.kind h.order m.octets.now (parts.LocateReply m.id m.status m.body.now) c.self.invariant (content.locate_reply m.id m.status (rest_of c.lend.result)) (ap (λ r. content.locate_reply m.id m.status r) c.lend.ensures))
