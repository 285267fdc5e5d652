-- That what is on offer keeps the promises of a catalogue.
use Rattle.std.specs.Prelude.{Bool, true, false}
use Rattle.std.proofs.Common.{refl}
use Rattle.ft_objects.specs.Catalogues.{IsOffer}
use Rattle.counter.specs.facts.Counter.{counter_is_servant}
use Rattle.deeds_player.specs.Offered.{offered}

pub offered-is : (hidden : Bool) → IsOffer (offered hidden)
offered-is true = record { valid = λ key name. tt; absent = λ key. (λ h name. refl, λ h. refl) }
offered-is false = record { valid = counter_is_servant.valid; absent = counter_is_servant.absent }
