use Rattle.ft_orb.proofs.attending.EngineHost.has_ended.Goals as goal

pub returns : goal.returns
returns g c = record { late = c.is_closed.ensures.stays; table = c.is_closed.ensures.rests }
