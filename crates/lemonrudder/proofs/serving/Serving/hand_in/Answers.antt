use Rattle.std.proofs.Common.{refl}
use Rattle.lemonrudder.proofs.Idling.{not_so}
use Rattle.lemonrudder.proofs.serving.Serving.hand_in.Goals as goal

pub returns-then-not-can_be : goal.returns-then-not-can_be
returns-then-not-can_be c = (λ cannot. (refl, refl), λ can. absurd (not_so c.if-not-can_be.true (c.can_be.ensures.1 can)))

pub give-requires : goal.give-requires
give-requires c = record { found = c.requires.found; can = c.can_be.ensures.0 c.if-not-can_be.false }

pub returns : goal.returns
returns c = (λ cannot. absurd (cannot (c.can_be.ensures.0 c.if-not-can_be.false)), λ can. c.give.ensures)
