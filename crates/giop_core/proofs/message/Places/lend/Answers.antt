use Rattle.giop_core.specs.Places.{content_in}
use Rattle.giop_core.proofs.Near.{said_near}
use Rattle.giop_core.proofs.message.Places.lend.Goals as goal

pub returns-clause-near : goal.returns-clause-near
returns-clause-near c =
    let h = c.args.header.now in
    let octets = c.args.octets.now in
    rw c.lend.ensures (said_near h.version h.kind h.order octets (content_in c.args.self.now.parts h.order octets) c.requires.0)
