-- What an engine serves, as the code holds it.
use Rattle.ft_objects.specs.Catalogues.{Offer}
use Rattle.ft_orb.specs.declared.offering.Offering.{Offering}
use Rattle.ft_orb.specs.Requests.{Terms}

abbrev pub terms_by : {C : Type 0} → (C → Offer) → Offering C → Terms
terms_by offers o = record { interface = (offers o.catalogue).interface; knows = (offers o.catalogue).knows; longest = o.longest; first = o.first }
