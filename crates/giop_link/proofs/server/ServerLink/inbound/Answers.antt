use Rattle.std.proofs.Common.{◌≡◌, Option, None, sym, ap, ◌∙◌}
use Rattle.giop_link.specs.declared.listener.PeerEnd.{PeerEnd}
use Rattle.giop_link.specs.Hearing.{meaning_in}
use Rattle.giop_link.specs.Linking.{Linked}
use Rattle.giop_link.specs.Listening.{spoken_by, told_with}
use Rattle.giop_link.proofs.Lending.{read-spoken}
use Rattle.giop_link.proofs.server.ServerLink.inbound.Goals as goal

pub returns-in_ok-reading-in-None-clause-lent : goal.returns-in_ok-reading-in-None-clause-lent
returns-in_ok-reading-in-None-clause-lent c =
    let l = c.self.inside.listener in
    let open_yet : None ≡ l.end = sym c.in-None.is ∙ c.end.ensures in
    c.spoken.ensures.told ∙ read-spoken meaning_in l.message c.in_ok-reading-in-None.field-0 c.in_ok-reading-in-None.ensures.lent
    ∙ ap (λ (e : Option PeerEnd). told_with e (spoken_by meaning_in l.message)) open_yet
    ∙ ap (λ (l : Linked). l.inbound) c.self.view_is
