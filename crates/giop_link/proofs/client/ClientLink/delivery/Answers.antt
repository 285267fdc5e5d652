use Rattle.std.proofs.Common.{◌≡◌, Bool, Option, None, sym, ap, ◌∙◌}
use Rattle.giop_link.specs.declared.listener.PeerEnd.{PeerEnd}
use Rattle.giop_link.specs.Answering.{answer_to}
use Rattle.giop_link.specs.ClientLinking.{ClientLinked}
use Rattle.giop_link.specs.Listening.{told_with}
use Rattle.giop_link.specs.Private.{told_if, told_of}
use Rattle.giop_link.proofs.Lending.{read-spoken}
use Rattle.giop_link.proofs.client.ClientLink.delivery.Goals as goal

pub returns-in_ok-reading-in-None-clause-lent : goal.returns-in_ok-reading-in-None-clause-lent
returns-in_ok-reading-in-None-clause-lent c =
    let l = c.self.inside.listener in
    let open_yet : None ≡ l.end = sym c.in-None.is ∙ c.end.ensures in
    c.delivered.ensures.told ∙ ap told_of (read-spoken answer_to l.message c.in_ok-reading-in-None.field-0 c.in_ok-reading-in-None.ensures.lent)
    ∙ ap (λ (b : Bool). told_if b l.message) (sym c.if-not-self.false)
    ∙ ap (λ (e : Option PeerEnd). told_with e (told_if c.self.inside.delivers l.message)) open_yet
    ∙ ap (λ (v : ClientLinked). v.delivery) c.self.view_is
