use Rattle.std.proofs.Common.{Option, true, ap, refl}
use Rattle.std.specs.Option.{option_map_or}
use Rattle.ft_orb.specs.Engines.{Awaited}
use Rattle.lemonrudder.specs.Connected.{is_there}
use Rattle.lemonrudder.proofs.Idling.{not_both, not_so}
use Rattle.lemonrudder.proofs.serving.Serving.tick.Goals as goal

pub returns-then-is_asking : goal.returns-then-is_asking
returns-then-is_asking c = (λ some. (refl, refl), λ idle. absurd (not_both _ (c.is_asking.ensures.0 c.if-is_asking.true) idle))

pub returns : goal.returns
returns c = (
  λ some. absurd (not_so c.if-is_asking.false (c.is_asking.ensures.1 some)),
  λ idle. (refl, (c.tick.ensures.idle, (λ q. (refl, refl), refl), λ q. (refl, refl), (c.tick.ensures.catalogue, refl), (c.tick.ensures.asks, c.tick.ensures.parked, c.tick.ensures.counts), c.tick.ensures.clock, c.tick.ensures.forgotten, c.tick.ensures.late, c.tick.ensures.ended)),
)

pub invariant_of-self : goal.invariant_of-self
invariant_of-self c = record { asked = ap (λ (x : Option Awaited). option_map_or (λ (w : Awaited). is_there c.args.self.now.connections w.connection) x true) c.tick.ensures.idle }
