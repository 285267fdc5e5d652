use Rattle.ft_orb.specs.Engines.{as_server}
use Rattle.ft_orb.specs.Owners.{made_of, meaning_of}
use Rattle.ft_orb.proofs.Streams.{lost-closed}
use Rattle.ft_orb.proofs.attending.EngineHost.forget.Goals as goal

pub returns-clause-closed : goal.returns-clause-closed
returns-clause-closed g c o calls past note rests =
    let x = c.lost.ensures.table o calls _ rests in
    record { offer_is = x.offer_is; idle = x.idle; stands = lost-closed (meaning_of o) (made_of o) (as_server c.lost.new.self calls) past c.args.connection note x.stands }

pub returns-clause-late : goal.returns-clause-late
returns-clause-late g c s held calls past waiting h = c.lost.ensures.late s held calls past waiting h
