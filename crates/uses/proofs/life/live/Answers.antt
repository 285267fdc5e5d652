use Rattle.std.proofs.Common.{None, refl}
use Rattle.ft_orb.specs.Parking.{Settings}
use Rattle.ft_orb.specs.Requests.{terms_of}
use Rattle.uses.proofs.life.live.Goals as goal

pub returns : goal.returns
returns g c held =
    let s : Settings = record { terms = λ n. terms_of None (g.C.Catalogue.offers c.args.catalogue); limits = c.args.limits; capacity = 100; share = 100; places = record { parked = 100; of_one = 20; joined = 10 } } in
    let x = c.play_deeds.ensures.new s held (record { stands = c.new-engine.ensures.late held s.terms refl; nobody = λ n none. refl; shows = record { asked = c.new-engine.ensures.asks; there = c.new-engine.ensures.parked; told = c.new-engine.ensures.told } }) in
    (x.0, x.1, x.2, x.3, x.5, x.8)
