use Rattle.std.proofs.Common.{refl}
use Rattle.ft_orb.specs.Engines.{awaited_lent, waits_in}
use Rattle.lemonrudder.specs.Tickets.{waiting_by}
use Rattle.lemonrudder.proofs.Asked.{asked-idle}
use Rattle.lemonrudder.proofs.Handing.{by_ticket, waits-are}
use Rattle.lemonrudder.proofs.Noting.{notes-why}
use Rattle.lemonrudder.proofs.serving.Serving.give_up.Goals as goal

pub returns : goal.returns
returns c =
    let s = c.args.self.now in
    let w = awaited_lent c.in_ok-asked.asked in
    by_ticket (waiting_by c.args.ticket (waits_in s.engine)) w _ _ _ _ c.in_ok-asked.ensures (
      refl,
      c.give_up.ensures.idle,
      (c.note.ensures.same, refl),
      (c.give_up.ensures.catalogue, refl),
      (c.give_up.ensures.asks, c.give_up.ensures.parked, c.give_up.ensures.counted),
      c.give_up.result,
      λ x held calls past waiting moment octets written v asks. (c.give_up.ensures.counts x held calls past waiting moment octets written v asks, c.give_up.ensures.late x held calls past waiting moment octets written v asks),
      c.give_up.ensures.ended w (waits-are c.args.ticket (waits_in s.engine) w c.in_ok-asked.ensures),
      notes-why w.connection c.ending-why.result _ s.connections s.connections c.note.new.self c.ending-why.ensures refl (λ q. (refl, refl)) c.note.ensures.noted,
    )

pub invariant_of-self : goal.invariant_of-self
invariant_of-self c = record { asked = asked-idle c.note.new.self c.give_up.new.self c.give_up.ensures.idle }
