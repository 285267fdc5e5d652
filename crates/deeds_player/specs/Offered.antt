-- What is on offer.
use Rattle.std.specs.Prelude.{Bool, true, false}
use Rattle.ft_objects.specs.Catalogues.{Offer}
use Rattle.ft_objects.specs.Filling.{nothing}
use Rattle.counter.specs.Counter.{counter_meaning}

-- the counter, or nothing where it is hidden
abbrev pub offered : Bool → Offer
offered true = nothing
offered false = record { interface = counter_meaning.interface; knows = counter_meaning.knows }
